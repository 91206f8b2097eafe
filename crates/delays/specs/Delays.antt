-- The delay word: the setting of each timer, the delay that it stands for, and that a higher setting never shortens it.
use Rattle.std.specs.Prelude.{ℕ, ◌/◌, ◌%◌, ◌^◌, ◌≤◌, List, [], ◌∷◌, slice_index}
use Rattle.delays.specs.declared.Timer.{Timer}
use Rattle.delays.specs.declared.Timer.TheVariants.{Undervoltage, Shutdown, Temperature, Transition, Permanent, Overcurrent, Overvoltage, Full, Watchdog}

-- the fields: D1-D0, D3-D2, D5-D4, D8-D6, D10-D9, D13-D11 and D15-D14
abbrev pub setting_of : Timer → ℕ → ℕ
setting_of Undervoltage w = w % 4
setting_of Shutdown w = w % 4
setting_of Temperature w = w / 2 ^ 2 % 4
setting_of Transition w = w / 2 ^ 2 % 4
setting_of Permanent w = w / 2 ^ 4 % 4
setting_of Overcurrent w = w / 2 ^ 6 % 8
setting_of Overvoltage w = w / 2 ^ 9 % 4
setting_of Full w = w / 2 ^ 11 % 8
setting_of Watchdog w = w / 2 ^ 14 % 4

-- the delay for each setting, in milliseconds
abbrev pub table : Timer → List ℕ
table Undervoltage = 351 ∷ 700 ∷ 1400 ∷ 2800 ∷ []
table Shutdown = 45000 ∷ 90000 ∷ 180000 ∷ 360000 ∷ []
table Temperature = 351 ∷ 700 ∷ 1400 ∷ 2800 ∷ []
table Transition = 4550 ∷ 8750 ∷ 17150 ∷ 34851 ∷ []
table Permanent = 351 ∷ 700 ∷ 1400 ∷ 2800 ∷ []
table Overcurrent = 351 ∷ 700 ∷ 1400 ∷ 2800 ∷ 5600 ∷ 11250 ∷ 22500 ∷ 45000 ∷ []
table Overvoltage = 351 ∷ 700 ∷ 1400 ∷ 2800 ∷ []
table Full = 33000 ∷ 67000 ∷ 135000 ∷ 270000 ∷ 540000 ∷ 1080000 ∷ 2160000 ∷ 5760000 ∷ []
table Watchdog = 22500 ∷ 45000 ∷ 90000 ∷ 180000 ∷ []

abbrev pub delay_of : Timer → ℕ → ℕ
delay_of t w = slice_index (table t) (setting_of t w)

-- no word that sets the timer at least as high has a delay shorter than d, the delay under v
abbrev pub NoShorter : Timer → ℕ → ℕ → Type 0
NoShorter t v d = (w : ℕ) → setting_of t v ≤ setting_of t w → d ≤ delay_of t w

-- every field of w is at least that of v
abbrev pub SettingsNoLower : ℕ → ℕ → Type 0
SettingsNoLower v w = (t : Timer) → setting_of t v ≤ setting_of t w

-- no delay under w is shorter than under v
abbrev pub DelaysNoShorter : ℕ → ℕ → Type 0
DelaysNoShorter v w = (t : Timer) → delay_of t v ≤ delay_of t w
