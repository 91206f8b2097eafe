-- The fields of the charge word, and what they say of precharging.
use Rattle.std.specs.Prelude.{ℕ, ◌+◌, ◌*◌, ◌/◌, ◌%◌, ◌^◌, slice_index_or}
use Rattle.layout.specs.declared.limits.Row.{Row}
use Rattle.layout.specs.declared.limits.Limits.{Limits}

-- a row that gives nothing; it stands for what lies past the last one
abbrev pub no_row : Row
no_row = record { current = 0; voltage = 0; level = 0 }

-- D12-D9
abbrev pub pre_qual_volt : ℕ → ℕ
pre_qual_volt word = word / 2 ^ 9 % 16

-- D5-D0
abbrev pub prechg_curr : ℕ → ℕ
prechg_curr word = word % 64

-- below this voltage the cell is precharged
abbrev pub precharge_below : Limits → ℕ
precharge_below l = l.levels.trip + 50 * pre_qual_volt l.levels.chargecfg

-- the most that precharging allows, by the Room row's current whatever the present row is
abbrev pub precharge_most : Limits → ℕ
precharge_most l = (slice_index_or l.rows 3 no_row).current * (1 + prechg_curr l.levels.chargecfg) / 256
