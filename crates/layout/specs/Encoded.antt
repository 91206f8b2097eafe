-- The image of a sheet.
use Rattle.std.specs.Prelude.{ℕ, ◌/◌, ◌%◌, List, [], ◌∷◌, ◌++◌, ℤ, pos, sum, slice_index, slice_index_or}
use Rattle.std.proofs.Common.{of_z}
use Rattle.std.specs.Int.{w8}
use Rattle.std.specs.List.{flat_map}
use Rattle.layout.specs.declared.limits.Levels.{Levels}
use Rattle.layout.specs.declared.limits.Degrees.{Degrees}
use Rattle.layout.specs.declared.limits.Row.{Row}
use Rattle.layout.specs.declared.limits.Steps.{Steps}
use Rattle.layout.specs.declared.limits.Timing.{Timing}
use Rattle.layout.specs.declared.limits.Limits.{Limits}

-- the two bytes of a word, the low one first
abbrev pub pair : ℕ → List ℕ
pair w = w % 256 ∷ w / 256 ∷ []

-- a signed number in two's complement
abbrev pub byte : List ℤ → ℕ → ℕ
byte zs i = of_z w8 (slice_index_or zs i (pos 0))

-- the edition, the count, and the five entries
abbrev pub content_bytes : List ℕ
content_bytes = 1 ∷ 5 ∷ 1 ∷ 22 ∷ 22 ∷ 0 ∷ 2 ∷ 12 ∷ 44 ∷ 0 ∷ 3 ∷ 42 ∷ 56 ∷ 0 ∷ 4 ∷ 12 ∷ 98 ∷ 0 ∷ 5 ∷ 4 ∷ 110 ∷ 0 ∷ []

-- the five bodies, field by field in the order of the image
abbrev pub level_bytes : Levels → List ℕ
level_bytes l =
    pair l.trip ++ (pair l.release ++ (pair l.shutdown ++ (pair l.overdrop ++ (pair l.permanent ++ (pair l.charging ++ (pair l.discharging ++ (pair l.full ++ (pair l.fulldrop ++ (pair l.fullcurrent ++ pair l.chargecfg)))))))))

abbrev pub degree_bytes : Degrees → List ℕ
degree_bytes d =
    byte d.edges 0 ∷ byte d.edges 1 ∷ byte d.edges 2 ∷ byte d.edges 3 ∷ byte d.edges 4 ∷ byte d.edges 5 ∷ byte d.edges 6 ∷ byte d.edges 7 ∷ of_z w8 d.hot ∷ of_z w8 d.die ∷ of_z w8 d.permanent ∷ d.hysteresis ∷ []

abbrev pub row_bytes : Row → List ℕ
row_bytes r = pair r.current ++ (pair r.voltage ++ pair r.level)

abbrev pub step_bytes : Steps → List ℕ
step_bytes s =
    pair (slice_index s.voltages 0) ++ (pair (slice_index s.voltages 1) ++ (pair (slice_index s.voltages 2) ++ (pair (slice_index s.voltages 3) ++ (slice_index s.ratios 0 ∷ slice_index s.ratios 1 ∷ slice_index s.ratios 2 ∷ slice_index s.ratios 3 ∷ []))))

abbrev pub timing_bytes : Timing → List ℕ
timing_bytes t = pair t.delaycfg ++ pair t.enabled

-- all but the sum
unfoldable pub body_of : Limits → List ℕ
body_of l = content_bytes ++ (level_bytes l.levels ++ (degree_bytes l.degrees ++ (flat_map row_bytes l.rows ++ (step_bytes l.steps ++ timing_bytes l.timing))))

-- the image: the body, and its sum
unfoldable pub image_of : Limits → List ℕ
image_of l = body_of l ++ pair (sum (body_of l))
