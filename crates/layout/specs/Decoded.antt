-- What an image decodes to: the limits that it holds, or a refusal.
use Rattle.std.specs.Prelude.{ℕ, Bool, true, false, ◌&&◌, List, length, take, drop, Some, None, Ok, Err, sum, Option, Result, ◌==◌, slice_index}
use Rattle.layout.specs.declared.limits.Limits.{Limits}
use Rattle.layout.specs.declared.refusal.Refusal.{Refusal}
use Rattle.layout.specs.declared.refusal.Refusal.TheVariants.{Length, Header, Entry, Sum, Range, Conflict}
use Rattle.layout.specs.Fields.{word, limits_of}
use Rattle.layout.specs.Rules.{first_broken, entry_rules, range_rules, conflict_rules}

-- one check after another: the first refusal counts
abbrev pub next : {A B : Type 0} → Result A Refusal → Result B Refusal → Result B Refusal
next (Ok a) k = k
next (Err e) k = Err e

-- a check that can fail in one way only
abbrev pub unless : {A : Type 0} → Bool → Refusal → Result A Refusal → Result A Refusal
unless true e k = k
unless false e k = Err e

-- a check that can fail at a place
abbrev pub refuse : {A : Type 0} → Option ℕ → (ℕ → Refusal) → Result A Refusal → Result A Refusal
refuse (Some p) f k = Err (f p)
refuse None f k = k

-- the edition is 1 and the count is 5
abbrev pub headed : List ℕ → Bool
headed m = slice_index m 0 == 1 && slice_index m 1 == 5

-- the last two bytes are the sum of all bytes before them
abbrev pub is_summed : List ℕ → Bool
is_summed m = sum (take 114 m) == word m 114

-- refusals 2 and 3: the edition and the count, and the table of contents
unfoldable pub contents : List ℕ → Result (Unit {0}) Refusal
contents m = unless (headed m) Header (refuse (first_broken (entry_rules (drop 2 m))) Entry (Ok tt))

-- refusal 4: the sum
unfoldable pub summed : List ℕ → Result (Unit {0}) Refusal
summed m = unless (is_summed m) Sum (Ok tt)

-- refusals 5 and 6, at the lowest place: a field out of its range, and two fields at odds
unfoldable pub ranges : Limits → Result (Unit {0}) Refusal
ranges l = refuse (first_broken (range_rules l)) Range (Ok tt)

unfoldable pub conflicts : Limits → Result (Unit {0}) Refusal
conflicts l = refuse (first_broken (conflict_rules l)) Conflict (Ok tt)

-- all checks in the order of their numbers, the length first; `Judged` (Laws) says what this comes to
unfoldable pub decoded : List ℕ → Result Limits Refusal
decoded m = unless (length m == 116) Length (next (contents m) (next (summed m) (next (ranges (limits_of m)) (next (conflicts (limits_of m)) (Ok (limits_of m))))))
