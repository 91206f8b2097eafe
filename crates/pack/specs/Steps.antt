-- How a record moves the state of a pack, and what the pack answers.
use Rattle.std.specs.Prelude.{ℕ, min, Bool, true, false, cond, not, ◌&&◌, List, map, Some, None, Ok, Err, Option, Result}
use Rattle.delays.specs.declared.Timer.TheVariants.{Transition}
use Rattle.delays.specs.Delays.{delay_of}
use Rattle.sheet.specs.declared.limits.Limits.{Limits}
use Rattle.reading.specs.declared.reading.Reading.{Reading}
use Rattle.reading.specs.declared.prepared.Prepared.{Prepared}
use Rattle.reading.specs.declared.region.Region.TheVariants.{Room}
use Rattle.reading.specs.Regions.{reached_by, region_of, row_at, level_of}
use Rattle.timing.specs.Timing.{all_idle, all_stepped, all_standing}
use Rattle.timing.specs.Mask.{mask_of}
use Rattle.inforce.specs.Ages.{unseen, aged, level_in_force}
use Rattle.faults.specs.declared.blocking.Switch as blocking
use Rattle.faults.specs.declared.blocking.Switch.TheVariants.{Charge, Discharge}
use Rattle.faults.specs.Observed.{observations, fault_delays}
use Rattle.faults.specs.Blocking.{blocks, blocked}
use Rattle.prescribers.specs.declared.prescription.Prescription.{Prescription}
use Rattle.calls.specs.declared.call.Call.{Call}
use Rattle.calls.specs.declared.call.Call.TheVariants.{Read, Word, Limit, Switch, Clear}
use Rattle.calls.specs.declared.call.Offs.{Offs}
use Rattle.calls.specs.declared.rejection.Rejection.{Rejection}
use Rattle.calls.specs.declared.rejection.Rejection.TheVariants.{Live}
use Rattle.calls.specs.Parsed.{parsed}
use Rattle.answers.specs.declared.answer.Answer.{Answer}
use Rattle.pack.specs.declared.state.State.{State}
use Rattle.pack.specs.declared.timed.Waits.{Waits}

-- a new pack: no reading, no host word, the widest limit, no switch-off
abbrev pub fresh : State
fresh = record {
  watches = record { table = all_idle };
  ages = record { table = unseen };
  last = None;
  word = false;
  limit = 20000;
  offs = record { charge = false; discharge = false };
}

-- the over-voltage level of each row, and the delay for which a higher one stays in force
abbrev pub levels_of : Limits → List ℕ
levels_of l = map (λ r. r.level) l.rows

abbrev pub transition : Limits → ℕ
transition l = delay_of Transition l.timing.delaycfg

-- every delay that a pack goes by
abbrev pub waits_of : Limits → Waits
waits_of l = record { faults = fault_delays l; transition = transition l }

-- the row that serves a reading
abbrev pub row_for : Limits → Reading → ℕ
row_for l r = row_at (reached_by l.degrees.edges r.cell)

-- a reading, with what the state says beside it
abbrev pub prepared_by : Limits → State → Reading → Prepared
prepared_by l x r = record {
  reading = r;
  region = region_of (reached_by l.degrees.edges r.cell);
  level = level_in_force (transition l) (level_of l r.cell) (aged (row_for l r) r.elapsed x.ages.table) (levels_of l);
  word = x.word;
}

-- an accepted reading moves every watch and every age, becomes the last one, and uses up the host word
unfoldable pub reads : Limits → State → Reading → State
reads l x r = record {
  watches = record { table = all_stepped (fault_delays l) (observations l (prepared_by l x r)) x.watches.table };
  ages = record { table = aged (row_for l r) r.elapsed x.ages.table };
  last = Some (prepared_by l x r);
  word = false;
  limit = x.limit;
  offs = x.offs;
}

-- an accepted call
abbrev pub moved : Limits → State → Call → State
moved l x (Read r) = reads l x r
moved l x Word = record { watches = x.watches; ages = x.ages; last = x.last; word = true; limit = x.limit; offs = x.offs }
moved l x (Limit n) = record { watches = x.watches; ages = x.ages; last = x.last; word = x.word; limit = n; offs = x.offs }
moved l x (Switch o) = record { watches = x.watches; ages = x.ages; last = x.last; word = x.word; limit = x.limit; offs = o }
moved l x Clear = record { watches = record { table = all_idle }; ages = x.ages; last = x.last; word = x.word; limit = x.limit; offs = x.offs }

-- a clear is refused unless both switches are held off
abbrev pub permitted : Offs → Call → Result Call Rejection
permitted o (Read r) = Ok (Read r)
permitted o Word = Ok Word
permitted o (Limit n) = Ok (Limit n)
permitted o (Switch p) = Ok (Switch p)
permitted o Clear = cond (o.charge && o.discharge) (Ok Clear) (Err Live)

-- the call that a record brings under the switch-offs in force, or its refusal
abbrev pub permitted_in : Offs → Result Call Rejection → Result Call Rejection
permitted_in o (Ok c) = permitted o c
permitted_in o (Err e) = Err e

-- the same, of the record itself
abbrev pub outcome : Offs → List ℕ → Result Call Rejection
outcome o bytes = permitted_in o (parsed bytes)

-- a refusal moves nothing
abbrev pub moved_by : Limits → State → Result Call Rejection → State
moved_by l x (Ok c) = moved l x c
moved_by l x (Err e) = x

-- the refusal, if there is one
abbrev pub refusal_in : Result Call Rejection → Option Rejection
refusal_in (Ok c) = None
refusal_in (Err e) = Some e

-- the state after a record
abbrev pub after : Limits → State → List ℕ → State
after l x bytes = moved_by l x (outcome x.offs bytes)

-- the host holds the switch off
abbrev pub held : blocking.Switch → Offs → Bool
held Charge o = o.charge
held Discharge o = o.discharge

-- a switch is on: no standing fault blocks it, and no switch-off holds it
abbrev pub is_on : blocking.Switch → State → Bool
is_on s x = not (blocked (blocks s) (all_standing x.watches.table)) && not (held s x.offs)

abbrev pub charges : State → Bool
charges x = is_on Charge x

abbrev pub discharges : State → Bool
discharges x = is_on Discharge x

-- what a prescriber gives for each reading
abbrev pub Meaning : Type 0
Meaning = Reading → Prescription

-- what stands, with the refusal of a record; nothing before the first accepted reading
abbrev pub shown_at : Meaning → State → Option Rejection → Option Prepared → Answer
shown_at gives x e None = record { refusal = e; charge = false; discharge = false; faults = 0; current = 0; voltage = 0; region = Room; level = 0 }
shown_at gives x e (Some p) = record {
  refusal = e;
  charge = charges x;
  discharge = discharges x;
  faults = mask_of (all_standing x.watches.table);
  current = cond (charges x) (min (gives p.reading).current x.limit) 0;
  voltage = cond (charges x) (gives p.reading).voltage 0;
  region = p.region;
  level = p.level;
}

-- the same, for the state's own last reading
abbrev pub shown : Meaning → State → Option Rejection → Answer
shown gives x e = shown_at gives x e x.last

-- the answer to a record
abbrev pub answered : Limits → Meaning → State → List ℕ → Answer
answered l gives x bytes = shown gives (after l x bytes) (refusal_in (outcome x.offs bytes))
