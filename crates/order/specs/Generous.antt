-- Sheet b is at least as generous as sheet a.
use Rattle.std.specs.Prelude.{◌≡◌, ℕ, ◌/◌, ◌%◌, ◌^◌, ◌<◌, ◌≤◌, ℤ, pos, negsuc, ◌*ℤ◌, ◌≤ℤ◌, slice_index, slice_index_or}
use Rattle.delays.specs.declared.Timer.{Timer}
use Rattle.delays.specs.Delays.{setting_of}
use Rattle.sheet.specs.declared.limits.Limits.{Limits}
use Rattle.reading.specs.Regions.{level_of, zone_current, zone_voltage}
use Rattle.sheet.specs.Charging.{pre_qual_volt, precharge_most}

-- where the coldest charging region begins, and where it is too hot to charge
abbrev pub first_edge : Limits → ℤ
first_edge l = slice_index_or l.degrees.edges 0 (pos 0)

abbrev pub last_edge : Limits → ℤ
last_edge l = slice_index_or l.degrees.edges 7 (pos 0)

-- fault k is enabled
abbrev pub Enabled : Limits → ℕ → Type 0
Enabled l k = l.timing.enabled / 2 ^ k % 2 ≡ 1

-- at a temperature in 1/256 degree, b gives no less than a and has no lower a level
pub record NoLowerAt (b a : Limits) (t : ℤ) : Type 0 where
  pub current : zone_current a t ≤ zone_current b t
  pub voltage : zone_voltage a t ≤ zone_voltage b t
  pub level : level_of a t ≤ level_of b t

-- field by field; b is the loose sheet, a the tight one
pub record Generous (b a : Limits) : Type 0 where
  -- b is no higher in these
  pub trip : b.levels.trip ≤ a.levels.trip
  pub release : b.levels.release ≤ a.levels.release
  pub shutdown : b.levels.shutdown ≤ a.levels.shutdown
  pub overdrop : b.levels.overdrop ≤ a.levels.overdrop
  pub fulldrop : b.levels.fulldrop ≤ a.levels.fulldrop
  pub fullcurrent : b.levels.fullcurrent ≤ a.levels.fullcurrent
  pub prequal : pre_qual_volt b.levels.chargecfg ≤ pre_qual_volt a.levels.chargecfg
  pub coldest : first_edge b ≤ℤ first_edge a
  pub hysteresis : b.degrees.hysteresis ≤ a.degrees.hysteresis
  -- and no lower in these
  pub permanent : a.levels.permanent ≤ b.levels.permanent
  pub charging : a.levels.charging ≤ b.levels.charging
  pub discharging : a.levels.discharging ≤ b.levels.discharging
  pub full : a.levels.full ≤ b.levels.full
  pub precharge : precharge_most a ≤ precharge_most b
  pub hottest : last_edge a ≤ℤ last_edge b
  pub hot : a.degrees.hot ≤ℤ b.degrees.hot
  pub die : a.degrees.die ≤ℤ b.degrees.die
  pub permhot : a.degrees.permanent ≤ℤ b.degrees.permanent
  pub voltages : (k : ℕ) → k < 4 → slice_index a.steps.voltages k ≤ slice_index b.steps.voltages k
  pub ratios : (k : ℕ) → k < 4 → slice_index a.steps.ratios k ≤ slice_index b.steps.ratios k
  -- every field of the delay word
  pub settings : (t : Timer) → setting_of t a.timing.delaycfg ≤ setting_of t b.timing.delaycfg
  -- at each whole degree from -128 to 127
  pub zones : (d : ℤ) → negsuc 127 ≤ℤ d → d ≤ℤ pos 127 → NoLowerAt b a (d *ℤ pos 256)
  -- each fault enabled in b is enabled in a
  pub enabled : (k : ℕ) → k < 13 → Enabled b k → Enabled a k
