-- What a judgement of an image owes, in the words of the format.
use Rattle.std.specs.Prelude.{◌≡◌, ℕ, ◌<◌, ◌≤◌, true, false, ◌⊎◌, List, [], ◌∷◌, length, take, drop, is_ok, Ok, Err, sum, Result, slice_index}
use Rattle.layout.specs.declared.limits.Limits.{Limits}
use Rattle.layout.specs.declared.rule.Rule.{Rule}
use Rattle.layout.specs.declared.refusal.Refusal.{Refusal}
use Rattle.layout.specs.declared.refusal.Refusal.TheVariants.{Length, Header, Entry, Sum, Range, Conflict}
use Rattle.layout.specs.Fields.{word, limits_of}
use Rattle.layout.specs.Rules.{entry_rules, range_rules, conflict_rules}
use Rattle.layout.specs.Refusals.{number_of, place_of}
use Rattle.layout.specs.Decoded.{decoded}
use Rattle.layout.specs.Encoded.{image_of}

-- some rule of the list is broken, and its place is p
abbrev pub BrokenAt : List Rule → ℕ → Type 0
BrokenAt [] p = ⊥
BrokenAt (r ∷ rs) p = ((r.kept ≡ false) × (r.place ≡ p)) ⊎ BrokenAt rs p

-- the image breaks a rule for which this refusal is owed
abbrev pub Breaks : List ℕ → Refusal → Type 0
Breaks m Length = length m ≡ 116 → ⊥
Breaks m Header = (slice_index m 0 ≡ 1) × (slice_index m 1 ≡ 5) → ⊥
Breaks m (Entry k) = BrokenAt (entry_rules (drop 2 m)) k
Breaks m Sum = sum (take 114 m) ≡ word m 114 → ⊥
Breaks m (Range p) = BrokenAt (range_rules (limits_of m)) p
Breaks m (Conflict p) = BrokenAt (conflict_rules (limits_of m)) p

-- e comes no later than f: by number, and then by place
abbrev pub NoLater : Refusal → Refusal → Type 0
NoLater e f = (number_of e < number_of f) ⊎ ((number_of e ≡ number_of f) × (place_of e ≤ place_of f))

-- the image breaks the rule of e, and whatever else it breaks comes no earlier
pub record FirstBroken (m : List ℕ) (e : Refusal) : Type 0 where
  pub broken : Breaks m e
  pub first : (f : Refusal) → Breaks m f → NoLater e f

-- a refusal is answered exactly when it is the first that the image is owed, and limits exactly when none is owed
pub record Judged (m : List ℕ) (r : Result Limits Refusal) : Type 0 where
  pub refused : (e : Refusal) → r ≡ Err e → FirstBroken m e
  pub owed : (e : Refusal) → FirstBroken m e → r ≡ Err e
  pub accepted : is_ok r ≡ true → (e : Refusal) → Breaks m e → ⊥
  pub unbroken : ((e : Refusal) → Breaks m e → ⊥) → is_ok r ≡ true

abbrev pub Bytes : List ℕ → Type 0
Bytes m = (i : ℕ) → slice_index m i < 256

-- limits that were read from an image write that image back
abbrev pub WritesBack : List ℕ → Result Limits Refusal → Type 0
WritesBack m r = (l : Limits) → r ≡ Ok l → image_of l ≡ m

-- no other image is read as the same limits
abbrev pub OneImage : List ℕ → Result Limits Refusal → Type 0
OneImage m r = (l : Limits) → r ≡ Ok l → (n : List ℕ) → Bytes n → decoded n ≡ Ok l → n ≡ m
