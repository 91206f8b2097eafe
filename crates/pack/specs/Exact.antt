-- The answer to a record, as the accepted calls of the whole history say it.
use Rattle.std.specs.Prelude.{◌≡◌, ℕ, ◌/◌, ◌%◌, ◌^◌, ◌≤◌, min, Bool, true, false, cond, List, [], ◌∷◌, Some, None, Decides, Option, ◌==◌}
use Rattle.sheet.specs.declared.limits.Limits.{Limits}
use Rattle.reading.specs.declared.reading.Reading.{Reading}
use Rattle.reading.specs.declared.prepared.Prepared.{Prepared}
use Rattle.reading.specs.declared.region.Region.TheVariants.{Room}
use Rattle.timing.specs.Stands.{Stands}
use Rattle.inforce.specs.Level.{InForce, times_of, levels_of_marks}
use Rattle.faults.specs.declared.fault.Fault.{Fault}
use Rattle.faults.specs.Faults.{bit_of, blocks_charge, blocks_discharge}
use Rattle.faults.specs.Observed.{fault_delay}
use Rattle.calls.specs.declared.call.Call.{Call}
use Rattle.calls.specs.Parsed.{parsed}
use Rattle.answers.specs.declared.answer.Answer.{Answer}
use Rattle.pack.specs.declared.state.State.{State}
use Rattle.pack.specs.Steps.{Meaning, fresh, after, levels_of, transition, permitted_in, refusal_in}
use Rattle.pack.specs.History.{held_offs, host_limit, calls_of, marks_of, level_in, last_of, seen_by}

-- bit k of a fault word
abbrev pub bit_at : ℕ → ℕ → Bool
bit_at word k = word / 2 ^ k % 2 == 1

-- a fault stands by the accepted readings since the last accepted clear
abbrev pub Standing : Limits → List Call → Fault → Type 0
Standing l cs f = Stands (fault_delay l f) (seen_by l cs f)

-- no standing fault blocks the switch, and no switch-off holds it
pub record Switched (l : Limits) (cs : List Call) (blocking : Fault → Bool) (held : Bool) : Type 0 where
  pub unblocked : (f : Fault) → blocking f ≡ true → Standing l cs f → ⊥
  pub unheld : held ≡ false

-- after an accepted reading p, the newest one
pub record AfterReading (l : Limits) (gives : Meaning) (cs : List Call) (p : Prepared) (a : Answer) : Type 0 where
  pub faults : (f : Fault) → Decides (bit_at a.faults (bit_of f)) (Standing l cs f)
  pub others : (k : ℕ) → 13 ≤ k → bit_at a.faults k ≡ false
  pub charge : Decides a.charge (Switched l cs blocks_charge (held_offs cs).charge)
  pub discharge : Decides a.discharge (Switched l cs blocks_discharge (held_offs cs).discharge)
  pub current : a.current ≡ cond a.charge (min (gives p.reading).current (host_limit cs)) 0
  pub voltage : a.voltage ≡ cond a.charge (gives p.reading).voltage 0
  pub region : a.region ≡ p.region
  pub level : a.level ≡ p.level

-- before the first accepted reading nothing stands, both switches are off, and all numbers are zero, the region's too, that of Room
abbrev pub Shows : Limits → Meaning → List Call → Answer → Option Prepared → Type 0
Shows l gives cs a None = a ≡ record { refusal = a.refusal; charge = false; discharge = false; faults = 0; current = 0; voltage = 0; region = Room; level = 0 }
Shows l gives cs a (Some p) = AfterReading l gives cs p a

-- the level that a reading has in an answer and in the rules of the faults is the one in force by all accepted readings
abbrev pub LevelsInForce : Limits → Type 0
LevelsInForce l = (newest : Reading) (older : List Reading) → InForce (transition l) (times_of (marks_of l (newest ∷ older))) (levels_of_marks (levels_of l) (marks_of l (newest ∷ older))) (level_in l (newest ∷ older))

-- the answer to a record, after earlier ones
pub record Exact (l : Limits) (gives : Meaning) (earlier : List (List ℕ)) (bytes : List ℕ) (a : Answer) : Type 0 where
  pub refusal : a.refusal ≡ refusal_in (permitted_in (held_offs (calls_of earlier)) (parsed bytes))
  pub shows : Shows l gives (calls_of (bytes ∷ earlier)) a (last_of l (calls_of (bytes ∷ earlier)))

-- the state of a new pack after records
abbrev pub left : Limits → List (List ℕ) → State
left l [] = fresh
left l (bytes ∷ earlier) = after l (left l earlier) bytes

-- the answer of a pack that was new before these records
abbrev pub ExactAfter : Limits → Meaning → State → List ℕ → Answer → Type 0
ExactAfter l gives x bytes a = (earlier : List (List ℕ)) → x ≡ left l earlier → Exact l gives earlier bytes a
