-- The temperature regions. Temperatures are in 1/256 degree, edges in whole degrees.
use Rattle.std.specs.Prelude.{ℕ, ◌+◌, ◌-◌, min, Bool, cond, ◌||◌, List, [], ◌∷◌, ℤ, pos, ◌-ℤ◌, ◌*ℤ◌, ◌==◌, int_le, slice_index_or}
use Rattle.sheet.specs.declared.limits.Row.{Row}
use Rattle.sheet.specs.Charging.{no_row}
use Rattle.sheet.specs.declared.limits.Limits.{Limits}
use Rattle.reading.specs.declared.region.Region.{Region}
use Rattle.reading.specs.declared.region.Region.TheVariants.{TooCold, Cold2, Cold1, Cool, Room, Warm, Hot, Hot2, TooHot}

-- how many of the edges a temperature of the region has reached
abbrev pub reached_of : Region → ℕ
reached_of TooCold = 0
reached_of Cold2 = 1
reached_of Cold1 = 2
reached_of Cool = 3
reached_of Room = 4
reached_of Warm = 5
reached_of Hot = 6
reached_of Hot2 = 7
reached_of TooHot = 8

-- the region of a temperature that has reached so many edges
abbrev pub region_of : ℕ → Region
region_of reached = slice_index_or (TooCold ∷ Cold2 ∷ Cold1 ∷ Cool ∷ Room ∷ Warm ∷ Hot ∷ Hot2 ∷ []) reached TooHot

-- how many of the edges a temperature has reached
abbrev pub reached_by : List ℤ → ℤ → ℕ
reached_by [] t = 0
reached_by (e ∷ es) t = cond (int_le (e *ℤ pos 256) t) 1 0 + reached_by es t

-- the number of a region: -4 is TooCold, 0 Room, 3 Hot2, 4 TooHot
abbrev pub number_of : ℕ → ℤ
number_of reached = pos reached -ℤ pos 4

-- the row that serves a region: TooCold takes the Cold2 row, TooHot the Hot2 row
abbrev pub row_at : ℕ → ℕ
row_at reached = min (reached - 1) 6

-- TooCold or TooHot
abbrev pub is_end : ℕ → Bool
is_end reached = reached == 0 || reached == 8

-- the over-voltage level of a region
abbrev pub level_at : List Row → ℕ → ℕ
level_at rows reached = (slice_index_or rows (row_at reached) no_row).level

-- what the charger may give in a region: nothing at the ends
abbrev pub current_at : List Row → ℕ → ℕ
current_at rows reached = cond (is_end reached) 0 (slice_index_or rows (row_at reached) no_row).current

abbrev pub voltage_at : List Row → ℕ → ℕ
voltage_at rows reached = cond (is_end reached) 0 (slice_index_or rows (row_at reached) no_row).voltage

-- what a sheet has at a temperature: the over-voltage level, and the current and voltage that the charger may give
abbrev pub level_of : Limits → ℤ → ℕ
level_of l t = level_at l.rows (reached_by l.degrees.edges t)

abbrev pub zone_current : Limits → ℤ → ℕ
zone_current l t = current_at l.rows (reached_by l.degrees.edges t)

abbrev pub zone_voltage : Limits → ℤ → ℕ
zone_voltage l t = voltage_at l.rows (reached_by l.degrees.edges t)
