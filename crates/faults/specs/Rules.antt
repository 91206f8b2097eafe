-- What trips each fault, and what releases it. Between the two lies the hysteresis.
use Rattle.std.specs.Prelude.{ℕ, ◌+◌, ◌/◌, ◌%◌, ◌^◌, Bool, false, not, ◌&&◌, ℤ, pos, ◌+ℤ◌, ◌-ℤ◌, ◌*ℤ◌, neg_ℤ, ◌==◌, int_le, int_lt, nat_le, nat_lt}
use Rattle.sheet.specs.declared.limits.Limits.{Limits}
use Rattle.reading.specs.declared.prepared.Prepared.{Prepared}
use Rattle.order.specs.Generous.{first_edge, last_edge}
use Rattle.faults.specs.declared.fault.Fault.{Fault}
use Rattle.faults.specs.declared.fault.Fault.TheVariants.{Undervoltage, Shutdown, Overvoltage, OvercurrentCharge, OvercurrentDischarge, TooColdCharge, TooHotCharge, TooHotDischarge, DieHot, Full, Watchdog, PermanentHot, PermanentOvervoltage}
use Rattle.faults.specs.Faults.{bit_of}

-- a sheet has whole degrees, a reading 1/256 degree
abbrev pub fine : ℤ → ℤ
fine degree = degree *ℤ pos 256

-- the hysteresis is in whole degrees too
abbrev pub margin : ℕ → ℤ
margin hysteresis = pos hysteresis *ℤ pos 256

-- the reading trips the fault
abbrev pub trips : Fault → Limits → Prepared → Bool
trips Undervoltage l p = nat_lt p.reading.voltage l.levels.trip
trips Shutdown l p = nat_lt p.reading.voltage l.levels.shutdown && not p.reading.charger
trips Overvoltage l p = nat_lt p.level p.reading.voltage
trips OvercurrentCharge l p = int_lt (pos l.levels.charging) p.reading.current
trips OvercurrentDischarge l p = int_lt p.reading.current (neg_ℤ (pos l.levels.discharging))
trips TooColdCharge l p = int_lt p.reading.cell (fine (first_edge l))
trips TooHotCharge l p = int_le (fine (last_edge l)) p.reading.cell
trips TooHotDischarge l p = int_le (fine l.degrees.hot) p.reading.cell
trips DieHot l p = int_le (fine l.degrees.die) p.reading.die
trips Full l p = nat_le l.levels.full p.reading.voltage && (int_le (pos 0) p.reading.current && int_le p.reading.current (pos l.levels.fullcurrent))
trips Watchdog l p = not p.word
trips PermanentHot l p = int_le (fine l.degrees.permanent) p.reading.cell
trips PermanentOvervoltage l p = nat_lt l.levels.permanent p.reading.voltage

-- the reading releases the fault; a drop is added on the left, so that nothing is cut off at zero
abbrev pub releases : Fault → Limits → Prepared → Bool
releases Undervoltage l p = nat_le l.levels.release p.reading.voltage
releases Shutdown l p = p.reading.charger
releases Overvoltage l p = nat_le (p.reading.voltage + l.levels.overdrop) p.level
releases OvercurrentCharge l p = not p.reading.charger && int_le p.reading.current (pos 0)
releases OvercurrentDischarge l p = p.reading.charger && int_le (pos 0) p.reading.current
releases TooColdCharge l p = int_le (fine (first_edge l) +ℤ margin l.degrees.hysteresis) p.reading.cell
releases TooHotCharge l p = int_lt p.reading.cell (fine (last_edge l) -ℤ margin l.degrees.hysteresis)
releases TooHotDischarge l p = int_lt p.reading.cell (fine l.degrees.hot -ℤ margin l.degrees.hysteresis)
releases DieHot l p = int_lt p.reading.die (fine l.degrees.die -ℤ margin l.degrees.hysteresis)
releases Full l p = nat_lt (p.reading.voltage + l.levels.fulldrop) l.levels.full
releases Watchdog l p = p.word
releases PermanentHot l p = false
releases PermanentOvervoltage l p = false

-- the fault's bit of the enable word is set
abbrev pub is_enabled : Fault → Limits → Bool
is_enabled f l = l.timing.enabled / 2 ^ bit_of f % 2 == 1
