-- What a list of records says, in terms of the calls that were accepted. Records, calls and readings have the newest first.
use Rattle.std.specs.Prelude.{ℕ, ◌+◌, max, Bool, true, false, cond, List, [], ◌∷◌, map, Some, None, Ok, Err, Option, Result, nat_lt}
use Rattle.sheet.specs.declared.limits.Limits.{Limits}
use Rattle.reading.specs.declared.reading.Reading.{Reading}
use Rattle.reading.specs.declared.prepared.Prepared.{Prepared}
use Rattle.reading.specs.Regions.{reached_by, region_of, level_of}
use Rattle.timing.specs.declared.Observation.{Observation}
use Rattle.inforce.specs.Ages.{Mark}
use Rattle.faults.specs.declared.fault.Fault.{Fault}
use Rattle.faults.specs.Observed.{observation}
use Rattle.calls.specs.declared.call.Call.{Call}
use Rattle.calls.specs.declared.call.Call.TheVariants.{Read, Word, Limit, Switch, Clear}
use Rattle.calls.specs.declared.call.Offs.{Offs}
use Rattle.calls.specs.declared.rejection.Rejection.{Rejection}
use Rattle.calls.specs.Parsed.{parsed}
use Rattle.pack.specs.Steps.{permitted_in, transition, row_for}

-- the switch-offs in force: those of the newest S, and none before it
abbrev pub held_offs : List Call → Offs
held_offs [] = record { charge = false; discharge = false }
held_offs (Read r ∷ cs) = held_offs cs
held_offs (Word ∷ cs) = held_offs cs
held_offs (Limit n ∷ cs) = held_offs cs
held_offs (Switch o ∷ cs) = o
held_offs (Clear ∷ cs) = held_offs cs

-- the host limit in force: that of the newest L, and 20000 before it
abbrev pub host_limit : List Call → ℕ
host_limit [] = 20000
host_limit (Read r ∷ cs) = host_limit cs
host_limit (Word ∷ cs) = host_limit cs
host_limit (Limit n ∷ cs) = n
host_limit (Switch o ∷ cs) = host_limit cs
host_limit (Clear ∷ cs) = host_limit cs

-- a W has come since the newest reading
abbrev pub word_since : List Call → Bool
word_since [] = false
word_since (Read r ∷ cs) = false
word_since (Word ∷ cs) = true
word_since (Limit n ∷ cs) = word_since cs
word_since (Switch o ∷ cs) = word_since cs
word_since (Clear ∷ cs) = word_since cs

-- the accepted readings
abbrev pub readings : List Call → List Reading
readings [] = []
readings (Read r ∷ cs) = r ∷ readings cs
readings (Word ∷ cs) = readings cs
readings (Limit n ∷ cs) = readings cs
readings (Switch o ∷ cs) = readings cs
readings (Clear ∷ cs) = readings cs

-- one more call, unless the record was refused
abbrev pub noted : List Call → Result Call Rejection → List Call
noted cs (Ok c) = c ∷ cs
noted cs (Err e) = cs

-- the calls that were accepted, by the records and the switch-offs in force at each
abbrev pub calls_of : List (List ℕ) → List Call
calls_of [] = []
calls_of (bytes ∷ earlier) = noted (calls_of earlier) (permitted_in (held_offs (calls_of earlier)) (parsed bytes))

-- the greatest level among those of the readings since which less than the delay has passed, if some time has passed already
abbrev pub greatest : Limits → ℕ → ℕ → List Reading → ℕ
greatest l delay since [] = 0
greatest l delay since (r ∷ older) = max (cond (nat_lt since delay) (level_of l r.cell) 0) (greatest l delay (since + r.elapsed) older)

-- the over-voltage level in force at the newest reading: the greatest among its own level and that of every earlier reading
-- whose later elapsed times, this one's included, total less than the transition delay
abbrev pub level_in : Limits → List Reading → ℕ
level_in l [] = 0
level_in l (r ∷ older) = max (level_of l r.cell) (greatest l (transition l) r.elapsed older)

-- a reading as the level in force sees it: its row of the sheet, and the time before it
abbrev pub mark_of : Limits → Reading → Mark
mark_of l r = record { row = row_for l r; elapsed = r.elapsed }

abbrev pub marks_of : Limits → List Reading → List Mark
marks_of l rs = map (mark_of l) rs

-- a reading, with what the accepted calls before it say beside it
abbrev pub prepared_after : Limits → List Call → Reading → Prepared
prepared_after l cs r = record { reading = r; region = region_of (reached_by l.degrees.edges r.cell); level = level_in l (r ∷ readings cs); word = word_since cs }

-- the newest accepted reading
abbrev pub last_of : Limits → List Call → Option Prepared
last_of l [] = None
last_of l (Read r ∷ cs) = Some (prepared_after l cs r)
last_of l (Word ∷ cs) = last_of l cs
last_of l (Limit n ∷ cs) = last_of l cs
last_of l (Switch o ∷ cs) = last_of l cs
last_of l (Clear ∷ cs) = last_of l cs

-- the accepted readings since the last accepted clear
abbrev pub since_clear : Limits → List Call → List Prepared
since_clear l [] = []
since_clear l (Read r ∷ cs) = prepared_after l cs r ∷ since_clear l cs
since_clear l (Word ∷ cs) = since_clear l cs
since_clear l (Limit n ∷ cs) = since_clear l cs
since_clear l (Switch o ∷ cs) = since_clear l cs
since_clear l (Clear ∷ cs) = []

-- these readings, as the rule of a fault sees them
abbrev pub seen_by : Limits → List Call → Fault → List Observation
seen_by l cs f = map (λ p. observation l p f) (since_clear l cs)
