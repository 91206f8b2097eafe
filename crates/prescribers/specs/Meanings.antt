-- What each prescriber gives, and what each limiter makes of a pair from below.
use Rattle.std.specs.Prelude.{ℕ, ◌-◌, ◌*◌, ◌/◌, ◌≤◌, min, cond, List, ◌==◌, nat_le, nat_lt, slice_index, count_by}
use Rattle.sheet.specs.declared.limits.Steps.{Steps}
use Rattle.sheet.specs.declared.limits.Limits.{Limits}
use Rattle.reading.specs.declared.reading.Reading.{Reading}
use Rattle.reading.specs.Regions.{zone_current, zone_voltage}
use Rattle.prescribers.specs.declared.prescription.Prescription.{Prescription}

-- the row of the cell's region, and nothing in TooCold and TooHot
abbrev pub zone_gives : Limits → Reading → Prescription
zone_gives l r = record { current = zone_current l r.cell; voltage = zone_voltage l r.cell }

-- how many of the step voltages are at most v
abbrev pub steps_reached : List ℕ → ℕ → ℕ
steps_reached ss v = count_by (λ s. nat_le s v) ss

-- the ratio after k steps, in sixteenths: all sixteen before the first, and then the k-th, whose index is k - 1
abbrev pub ratio_after : ℕ → List ℕ → ℕ
ratio_after k ratios = cond (k == 0) 16 (slice_index ratios (k - 1))

-- no ratio is above 16; past the last one stands 0
abbrev pub InSixteenths : Steps → Type 0
InSixteenths s = (i : ℕ) → slice_index s.ratios i ≤ 16

-- how many sixteenths are left of the current at a voltage
abbrev pub step_share : Steps → ℕ → ℕ
step_share s v = ratio_after (steps_reached s.voltages v) s.ratios

-- the current is cut to its share, rounded down
abbrev pub stepped : Steps → Reading → Prescription → Prescription
stepped s r p = record { current = p.current * step_share s r.voltage / 16; voltage = p.voltage }

-- below a voltage the current is at most so much
abbrev pub precharged : ℕ → ℕ → Reading → Prescription → Prescription
precharged until most r p = record { current = cond (nat_lt r.voltage until) (min p.current most) p.current; voltage = p.voltage }
