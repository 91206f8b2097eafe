-- Eleven worked cases on the sample sheet, in the words of the contracts.
use Rattle.std.specs.Prelude.{◌≡◌, ℕ, Bool, true, false, List, [], ◌∷◌, map, ℤ, pos, neg_ℤ, Ok}
use Rattle.sheet.specs.Decoded.{decoded}
use Rattle.reading.specs.Regions.{reached_of, region_of, reached_by, number_of, level_of, zone_current, zone_voltage}
use Rattle.order.specs.Generous.{Generous}
use Rattle.prescribers.specs.Usual.{usual_gives}
use Rattle.calls.specs.Kinds.{reading_of}
use Rattle.answers.specs.declared.answer.Answer.{Answer}
use Rattle.answers.specs.Answers.{number_in}
use Rattle.pack.specs.Exact.{bit_at}
use Rattle.cases.specs.Sample.{sample, short_watchdog}
use Rattle.cases.specs.Records.{at25, at46, switch_offs, clear, answer_to}

-- the number of the region that an answer holds at a temperature in 1/256 °C: -4 is TooCold, 0 Room, 4 TooHot
abbrev pub region_at : ℤ → ℤ
region_at t = number_of (reached_of (region_of (reached_by sample.degrees.edges t)))

-- a temperature in each region, from TooCold to TooHot: -6, -3, 2, 10, 25, 40, 46, 52 and 60 °C
abbrev pub in_each : List ℤ
in_each = neg_ℤ (pos 1536) ∷ neg_ℤ (pos 768) ∷ pos 512 ∷ pos 2560 ∷ pos 6400 ∷ pos 10240 ∷ pos 11776 ∷ pos 13312 ∷ pos 15360 ∷ []

-- the current in mA that the usual stack prescribes at 25 °C and a voltage in mV
abbrev pub prescribed_at : ℕ → ℕ
prescribed_at voltage = (usual_gives sample (reading_of (at25 1 voltage))).current

-- the bits of three faults in the fault word: under-voltage, over-voltage and the charger's watchdog
abbrev pub uvp : ℕ
uvp = 0

abbrev pub ovp : ℕ
ovp = 2

abbrev pub chg_wdt : ℕ
chg_wdt = 10

-- the answer has the fault's bit set
abbrev pub shows : Answer → ℕ → Bool
shows a bit = bit_at a.faults bit

pub record WorkedCases (image : List ℕ) : Type 0 where
  -- the image is accepted, and holds the limits that all that follows is about
  pub sheet : decoded image ≡ Ok sample
  -- 1. temperatures are not rounded towards zero: 1/256 °C below 15 °C is still Cool, 15 °C is Room, and 1/256 °C below 0 °C is still Cold2
  pub regions : (region_at (pos 3839) ≡ neg_ℤ (pos 1)) × (region_at (pos 3840) ≡ pos 0) × (region_at (neg_ℤ (pos 1)) ≡ neg_ℤ (pos 3))
  -- 2. a cell at 2900 mV is precharged; at 4000 mV it has passed two steps
  pub prescribed : (prescribed_at 2900 ≡ 125) × (prescribed_at 4000 ≡ 750)
  -- 3. two readings above 4300 mV that total 699 ms do not raise OVP
  pub waits : shows (answer_to (at25 351 4301) (at25 348 4301 ∷ [])) ovp ≡ false
  -- 4. two that total 700 ms do
  pub stands : shows (answer_to (at25 351 4301) (at25 349 4301 ∷ [])) ovp ≡ true
  -- 5. a third reading then releases it at 4200 mV, and not at 4201 mV
  pub releases : (shows (answer_to (at25 1 4200) (at25 351 4301 ∷ at25 349 4301 ∷ [])) ovp ≡ false)
      × (shows (answer_to (at25 1 4201) (at25 351 4301 ∷ at25 349 4301 ∷ [])) ovp ≡ true)
  -- 6. the higher level of 25 °C stays in force through 8,749 ms at 46 °C, and no longer than that
  pub transition : ((answer_to (at46 749 4000) (at46 8000 4000 ∷ at25 1000 4000 ∷ [])).level ≡ 4300)
      × ((answer_to (at46 750 4000) (at46 8000 4000 ∷ at25 1000 4000 ∷ [])).level ≡ 4150)
  -- 7. a new pack that hears no word from its host raises ChgWDT at a reading of 45,000 ms, and not at one of 44,999 ms
  pub watchdog : (shows (answer_to (at25 45000 3700) []) chg_wdt ≡ true) × (shows (answer_to (at25 44999 3700) []) chg_wdt ≡ false)
  -- 8. the sample is at least as generous as itself with the shortest watchdog, and the other way round that is not so
  pub generous : Generous sample short_watchdog × (Generous short_watchdog sample → ⊥)

-- three more on the same sheet
pub record MoreWorkedCases : Type 0 where
  -- 9. a reading of 700 ms at 2799 mV raises UVP; a second one leaves it at 2999 mV, and releases it at 3000 mV
  pub undervoltage : (shows (answer_to (at25 1 2999) (at25 700 2799 ∷ [])) uvp ≡ true) × (shows (answer_to (at25 1 3000) (at25 700 2799 ∷ [])) uvp ≡ false)
  -- 10. a clear is refused, with 10, while charge alone or discharge alone is held off, and taken while both are
  pub cleared : (number_in (answer_to clear (switch_offs 1 ∷ [])).refusal ≡ 10) × (number_in (answer_to clear (switch_offs 2 ∷ [])).refusal ≡ 10) × (number_in (answer_to clear (switch_offs 3 ∷ [])).refusal ≡ 0)
  -- 11. each region has its own row; TooCold and TooHot have the level of the row beside them, and nothing is charged there
  pub rows : (map (level_of sample) in_each ≡ 4150 ∷ 4150 ∷ 4200 ∷ 4250 ∷ 4300 ∷ 4250 ∷ 4150 ∷ 4100 ∷ 4100 ∷ [])
      × (map (zone_current sample) in_each ≡ 0 ∷ 100 ∷ 200 ∷ 500 ∷ 1000 ∷ 800 ∷ 400 ∷ 200 ∷ 0 ∷ [])
      × (map (zone_voltage sample) in_each ≡ 0 ∷ 4000 ∷ 4050 ∷ 4100 ∷ 4200 ∷ 4150 ∷ 4050 ∷ 4000 ∷ 0 ∷ [])
