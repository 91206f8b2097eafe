-- Prescribed pairs: their range, and their order.
use Rattle.std.specs.Prelude.{◌≤◌}
use Rattle.prescribers.specs.declared.prescription.Prescription.{Prescription}

-- the ranges of a sheet's currents and voltages
abbrev pub InRange : Prescription → Type 0
InRange p = (p.current ≤ 20000) × (p.voltage ≤ 5000)

-- p gives no more than q
pub record AtMost (p q : Prescription) : Type 0 where
  pub current : p.current ≤ q.current
  pub voltage : p.voltage ≤ q.voltage
