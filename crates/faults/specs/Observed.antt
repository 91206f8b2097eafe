-- What the rules of all the faults see of a reading, and how long each fault waits.
use Rattle.std.specs.Prelude.{ℕ, ◌&&◌, List, map}
use Rattle.delays.specs.Delays.{delay_of}
use Rattle.sheet.specs.declared.limits.Limits.{Limits}
use Rattle.reading.specs.declared.prepared.Prepared.{Prepared}
use Rattle.timing.specs.declared.Observation.{Observation}
use Rattle.faults.specs.declared.fault.Fault.{Fault}
use Rattle.faults.specs.Faults.{all, timer_of}
use Rattle.faults.specs.Rules.{trips, releases, is_enabled}

-- a fault that is not enabled never trips
abbrev pub observation : Limits → Prepared → Fault → Observation
observation l p f = record { elapsed = p.reading.elapsed; trips = is_enabled f l && trips f l p; releases = releases f l p }

-- fault by fault, in the order of the bits
unfoldable pub observations : Limits → Prepared → List Observation
observations l p = map (observation l p) all

-- the delay of a fault, in milliseconds
abbrev pub fault_delay : Limits → Fault → ℕ
fault_delay l f = delay_of (timer_of f) l.timing.delaycfg

-- in the order of the bits too
unfoldable pub fault_delays : Limits → List ℕ
fault_delays l = map (fault_delay l) all
