-- A judgement as a number and a place, and the line that tells it.
use Rattle.std.specs.Prelude.{ℕ, List, ◌∷◌, ◌++◌, Some, None, Ok, Err, codes, decimal, Option, Result}
use Rattle.layout.specs.declared.limits.Limits.{Limits}
use Rattle.layout.specs.declared.refusal.Refusal.{Refusal}
use Rattle.sheet.specs.declared.sheet.Sheet.{Sheet}
use Rattle.sheet.specs.declared.verdict.Verdict.{Verdict}
use Rattle.sheet.specs.declared.verdict.VerdictNumbers.{VerdictNumbers}
use Rattle.layout.specs.Refusals.{number_of, place_of}

-- what was read, without the sheet's invariant
abbrev pub limits_in : Result Sheet Refusal → Result Limits Refusal
limits_in (Ok s) = Ok s.limits
limits_in (Err e) = Err e

abbrev pub verdict_of : Result Limits Refusal → Verdict
verdict_of (Ok l) = record { refusal = None }
verdict_of (Err e) = record { refusal = Some e }

-- 0, 0 for an accepted sheet
abbrev pub number_in : Option Refusal → ℕ
number_in None = 0
number_in (Some e) = number_of e

abbrev pub place_in : Option Refusal → ℕ
place_in None = 0
place_in (Some e) = place_of e

-- the numbers of a verdict
abbrev pub numbers_of : Verdict → VerdictNumbers
numbers_of v = record { number = number_in v.refusal; place = place_in v.refusal }

abbrev pub line_in : VerdictNumbers → List ℕ
line_in n = codes "sheet " ++ (decimal n.number ++ (32 ∷ decimal n.place))

abbrev pub line_of : Verdict → List ℕ
line_of v = line_in (numbers_of v)
