-- What the parsing of a record owes, in the words of the format.
use Rattle.std.specs.Prelude.{◌≡◌, ℕ, ◌/◌, ◌%◌, ◌^◌, ◌<◌, ◌≤◌, true, ◌⊎◌, List, length, is_ok, Ok, Err, Result, slice_index}
use Rattle.sheet.specs.Fields.{word}
use Rattle.reading.specs.Ranges.{InReadingRange}
use Rattle.calls.specs.declared.call.Call.{Call}
use Rattle.calls.specs.declared.call.Call.TheVariants.{Read, Word, Limit, Switch, Clear}
use Rattle.calls.specs.declared.rejection.Rejection.{Rejection}
use Rattle.calls.specs.declared.rejection.Rejection.TheVariants.{Letter, Spare, Range, Live, Length}
use Rattle.calls.specs.Kinds.{Kind, R, W, L, S, C, letter_of, flags_of, spare_from}

-- the record begins with the letter of the kind
abbrev pub Begins : List ℕ → Kind → Type 0
Begins m k = slice_index m 0 ≡ letter_of k

-- bit j of byte 1 is set
abbrev pub BitSet : List ℕ → ℕ → Type 0
BitSet m j = slice_index m 1 / 2 ^ j % 2 ≡ 1

-- a bit of byte 1 past the flags of the kind is set, or a byte that the kind leaves spare
abbrev pub SpareSet : Kind → List ℕ → Type 0
SpareSet k m = ((j : ℕ) × (flags_of k ≤ j) × BitSet m j) ⊎ ((i : ℕ) × (spare_from k ≤ i) × (0 < slice_index m i))

-- elapsed, voltage and the host limit are in their ranges
abbrev pub IsInRange : Kind → List ℕ → Type 0
IsInRange R m = (1 ≤ word m 2) × (word m 2 ≤ 60000) × (word m 4 ≤ 6000)
IsInRange W m = Unit {0}
IsInRange L m = word m 2 ≤ 20000
IsInRange S m = Unit {0}
IsInRange C m = Unit {0}

-- the record breaks the rule for which this refusal is owed; no record alone breaks that of a clear
abbrev pub Breaks : List ℕ → Rejection → Type 0
Breaks m Length = length m ≡ 12 → ⊥
Breaks m Letter = (k : Kind) → Begins m k → ⊥
Breaks m Spare = (k : Kind) × Begins m k × SpareSet k m
Breaks m Range = (k : Kind) × Begins m k × (IsInRange k m → ⊥)
Breaks m Live = ⊥

-- the order in which the rules count
abbrev pub turn_of : Rejection → ℕ
turn_of Length = 0
turn_of Letter = 1
turn_of Spare = 2
turn_of Range = 3
turn_of Live = 4

-- the record breaks the rule of e, and none that comes before it
pub record FirstBroken (m : List ℕ) (e : Rejection) : Type 0 where
  pub broken : Breaks m e
  pub first : (f : Rejection) → Breaks m f → turn_of e ≤ turn_of f

-- a refusal is answered exactly when it is the first that the record is owed, and a call exactly when none is owed
pub record ParsedExactly (m : List ℕ) (r : Result Call Rejection) : Type 0 where
  pub refused : (e : Rejection) → r ≡ Err e → FirstBroken m e
  pub owed : (e : Rejection) → FirstBroken m e → r ≡ Err e
  pub accepted : is_ok r ≡ true → (e : Rejection) → Breaks m e → ⊥
  pub unbroken : ((e : Rejection) → Breaks m e → ⊥) → is_ok r ≡ true

-- what a parsed call keeps
abbrev pub Ranged : Call → Type 0
Ranged (Read r) = InReadingRange r
Ranged Word = Unit {0}
Ranged (Limit n) = n ≤ 20000
Ranged (Switch o) = Unit {0}
Ranged Clear = Unit {0}

-- the same of a result; a refusal keeps nothing
abbrev pub RangedResult : Result Call Rejection → Type 0
RangedResult (Ok c) = Ranged c
RangedResult (Err e) = Unit {0}
