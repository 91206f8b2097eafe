-- Sheet b is at least as generous as sheet a, part by part. Only private functions cite these: what the whole of them means is `Generous`.
use Rattle.std.specs.Prelude.{◌≡◌, ℕ, ◌/◌, ◌%◌, ◌^◌, ◌<◌, ◌≤◌, ℤ, pos, negsuc, ◌*ℤ◌, ◌≤ℤ◌, slice_index, slice_index_or}
use Rattle.sheet.specs.declared.limits.Levels.{Levels}
use Rattle.sheet.specs.declared.limits.Degrees.{Degrees}
use Rattle.sheet.specs.declared.limits.Steps.{Steps}
use Rattle.sheet.specs.declared.limits.Limits.{Limits}
use Rattle.sheet.specs.Charging.{pre_qual_volt, precharge_most}
use Rattle.order.specs.Generous.{NoLowerAt}

pub record AreLevelsNoHigher (b a : Levels) : Type 0 where
  pub trip : b.trip ≤ a.trip
  pub release : b.release ≤ a.release
  pub shutdown : b.shutdown ≤ a.shutdown
  pub overdrop : b.overdrop ≤ a.overdrop
  pub fulldrop : b.fulldrop ≤ a.fulldrop
  pub fullcurrent : b.fullcurrent ≤ a.fullcurrent

pub record AreLevelsNoLower (b a : Levels) : Type 0 where
  pub permanent : a.permanent ≤ b.permanent
  pub full : a.full ≤ b.full
  pub charging : a.charging ≤ b.charging
  pub discharging : a.discharging ≤ b.discharging

pub record AreDegreesInOrder (b a : Degrees) : Type 0 where
  pub coldest : slice_index_or b.edges 0 (pos 0) ≤ℤ slice_index_or a.edges 0 (pos 0)
  pub hottest : slice_index_or a.edges 7 (pos 0) ≤ℤ slice_index_or b.edges 7 (pos 0)
  pub hot : a.hot ≤ℤ b.hot
  pub die : a.die ≤ℤ b.die
  pub permanent : a.permanent ≤ℤ b.permanent
  pub hysteresis : b.hysteresis ≤ a.hysteresis

pub record IsPrechargeInOrder (b a : Limits) : Type 0 where
  pub until : pre_qual_volt b.levels.chargecfg ≤ pre_qual_volt a.levels.chargecfg
  pub most : precharge_most a ≤ precharge_most b

abbrev pub AreStepsInOrder : Steps → Steps → Type 0
AreStepsInOrder b a = (k : ℕ) → k < 4 → (slice_index a.voltages k ≤ slice_index b.voltages k) × (slice_index a.ratios k ≤ slice_index b.ratios k)

-- each fault that the word b enables is enabled by a
abbrev pub AreFaultsInOrder : ℕ → ℕ → Type 0
AreFaultsInOrder b a = (k : ℕ) → k < 13 → b / 2 ^ k % 2 ≡ 1 → a / 2 ^ k % 2 ≡ 1

-- at each whole degree from -128 to 127
abbrev pub AreZonesInOrder : Limits → Limits → Type 0
AreZonesInOrder b a = (d : ℤ) → negsuc 127 ≤ℤ d → d ≤ℤ pos 127 → NoLowerAt b a (d *ℤ pos 256)
