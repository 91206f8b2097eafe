-- A sheet that is at least as generous sees no fault sooner and holds none longer.
use Rattle.std.specs.Prelude.{◌≡◌, ℕ, ◌≤◌, Bool, true, false, List, slice_index_or}
use Rattle.std.specs.List.{AllZip}
use Rattle.sheet.specs.declared.limits.Limits.{Limits}
use Rattle.reading.specs.declared.prepared.Prepared.{Prepared}
use Rattle.order.specs.Generous.{Generous}
use Rattle.timing.specs.declared.Observation.{Observation}
use Rattle.timing.specs.Order.{Tighter}
use Rattle.faults.specs.declared.fault.Fault.{Fault}
use Rattle.faults.specs.Observed.{observations, fault_delays}
use Rattle.faults.specs.Blocking.{blocked}

-- two packs take one reading; the level in force of the loose one is no lower
pub record SameReading (tight loose : Prepared) : Type 0 where
  pub reading : loose.reading ≡ tight.reading
  pub word : loose.word ≡ tight.word
  pub level : tight.level ≤ loose.level

-- under limits a no fault's rule sees anything looser than under any limits at least as generous
abbrev pub AllTighter : Limits → Prepared → List Observation → Type 0
AllTighter a p seen = (b : Limits) (q : Prepared) → Generous b a → SameReading p q → AllZip Tighter seen (observations b q)

-- under limits a no fault waits longer than under any limits at least as generous
abbrev pub NoDelayLonger : Limits → List ℕ → Type 0
NoDelayLonger a delays = (b : Limits) → Generous b a → AllZip (λ d e. d ≤ e) delays (fault_delays b)

-- what blocks the switch where fewer faults stand blocks it here
abbrev pub BlocksWithFewer : (Fault → Bool) → List Bool → Bool → Type 0
BlocksWithFewer blocking standing r = (fewer : List Bool) → ((k : ℕ) → slice_index_or fewer k false ≡ true → slice_index_or standing k false ≡ true) → blocked blocking fewer ≡ true → r ≡ true
