-- The limits of the sample sheet. Voltages are in mV, currents in mA, degrees in °C.
use Rattle.std.specs.Prelude.{ℕ, [], ◌∷◌, pos, neg_ℤ}
use Rattle.sheet.specs.declared.limits.Row.{Row}
use Rattle.sheet.specs.declared.limits.Limits.{Limits}

abbrev row : ℕ → ℕ → ℕ → Row
row c v l = record { current = c; voltage = v; level = l }

-- with a delay word; the rows are Cold2, Cold1, Cool, Room, Warm, Hot and Hot2
abbrev pub sample_with : ℕ → Limits
sample_with delays = record {
  levels = record { trip = 2800; release = 3000; shutdown = 2500; overdrop = 100; permanent = 4500; charging = 2000; discharging = 4000; full = 4150; fulldrop = 100; fullcurrent = 60; chargecfg = 2079 };
  degrees = record { edges = neg_ℤ (pos 5) ∷ pos 0 ∷ pos 5 ∷ pos 15 ∷ pos 35 ∷ pos 45 ∷ pos 50 ∷ pos 55 ∷ []; hot = pos 65; die = pos 85; permanent = pos 75; hysteresis = 3 };
  rows = row 100 4000 4150 ∷ row 200 4050 4200 ∷ row 500 4100 4250 ∷ row 1000 4200 4300 ∷ row 800 4150 4250 ∷ row 400 4050 4150 ∷ row 200 4000 4100 ∷ [];
  steps = record { voltages = 3800 ∷ 3950 ∷ 4050 ∷ 4120 ∷ []; ratios = 14 ∷ 12 ∷ 10 ∷ 8 ∷ [] };
  timing = record { delaycfg = delays; enabled = 8191 };
}

-- the delay word is 0x42B5: over-voltage waits 700 ms, a fall of the level 8,750 ms, the watchdog 45,000 ms
abbrev pub sample : Limits
sample = sample_with 17077

-- the same but for the watchdog: CHGWDT, D15-D14 of the delay word, is 0 in place of 1, which makes the word 0x02B5
abbrev pub short_watchdog : Limits
short_watchdog = sample_with 693
