-- The thirteen faults: the bit of each, the timer that it waits for, and the switches that it blocks.
use Rattle.std.specs.Prelude.{ℕ, Bool, true, false, List, [], ◌∷◌}
use Rattle.delays.specs.declared.Timer.{Timer}
use Rattle.delays.specs.declared.Timer.TheVariants as timer
use Rattle.faults.specs.declared.fault.Fault.{Fault}
use Rattle.faults.specs.declared.fault.Fault.TheVariants.{Undervoltage, Shutdown, Overvoltage, OvercurrentCharge, OvercurrentDischarge, TooColdCharge, TooHotCharge, TooHotDischarge, DieHot, Full, Watchdog, PermanentHot, PermanentOvervoltage}

-- the bit of a fault in the fault word and in the enable word, and its place in every table of the faults
abbrev pub bit_of : Fault → ℕ
bit_of Undervoltage = 0
bit_of Shutdown = 1
bit_of Overvoltage = 2
bit_of OvercurrentCharge = 3
bit_of OvercurrentDischarge = 4
bit_of TooColdCharge = 5
bit_of TooHotCharge = 6
bit_of TooHotDischarge = 7
bit_of DieHot = 8
bit_of Full = 9
bit_of Watchdog = 10
bit_of PermanentHot = 11
bit_of PermanentOvervoltage = 12

-- in the order of the bits
abbrev pub all : List Fault
all =
    Undervoltage ∷ Shutdown ∷ Overvoltage ∷ OvercurrentCharge ∷ OvercurrentDischarge ∷ TooColdCharge ∷ TooHotCharge ∷ TooHotDischarge ∷ DieHot ∷ Full ∷ Watchdog ∷ PermanentHot ∷ PermanentOvervoltage ∷ []

-- the timer whose delay a fault waits for before it stands
abbrev pub timer_of : Fault → Timer
timer_of Undervoltage = timer.Undervoltage
timer_of Shutdown = timer.Shutdown
timer_of Overvoltage = timer.Overvoltage
timer_of OvercurrentCharge = timer.Overcurrent
timer_of OvercurrentDischarge = timer.Overcurrent
timer_of TooColdCharge = timer.Temperature
timer_of TooHotCharge = timer.Temperature
timer_of TooHotDischarge = timer.Temperature
timer_of DieHot = timer.Temperature
timer_of Full = timer.Full
timer_of Watchdog = timer.Watchdog
timer_of PermanentHot = timer.Permanent
timer_of PermanentOvervoltage = timer.Permanent

-- while it stands, the pack takes no charge
abbrev pub blocks_charge : Fault → Bool
blocks_charge Undervoltage = false
blocks_charge Shutdown = true
blocks_charge Overvoltage = true
blocks_charge OvercurrentCharge = true
blocks_charge OvercurrentDischarge = false
blocks_charge TooColdCharge = true
blocks_charge TooHotCharge = true
blocks_charge TooHotDischarge = false
blocks_charge DieHot = true
blocks_charge Full = true
blocks_charge Watchdog = true
blocks_charge PermanentHot = true
blocks_charge PermanentOvervoltage = true

-- while it stands, the pack gives no charge
abbrev pub blocks_discharge : Fault → Bool
blocks_discharge Undervoltage = true
blocks_discharge Shutdown = true
blocks_discharge Overvoltage = false
blocks_discharge OvercurrentCharge = false
blocks_discharge OvercurrentDischarge = true
blocks_discharge TooColdCharge = false
blocks_discharge TooHotCharge = false
blocks_discharge TooHotDischarge = true
blocks_discharge DieHot = true
blocks_discharge Full = false
blocks_discharge Watchdog = false
blocks_discharge PermanentHot = true
blocks_discharge PermanentOvervoltage = true
