-- Where each field of a sheet stands in its image.
use Rattle.std.specs.Prelude.{ℕ, ◌+◌, ◌*◌, List, [], ◌∷◌, ℤ, slice_index}
use Rattle.std.proofs.Common.{to_z}
use Rattle.std.specs.Int.{w8}
use Rattle.layout.specs.declared.limits.Levels.{Levels}
use Rattle.layout.specs.declared.limits.Degrees.{Degrees}
use Rattle.layout.specs.declared.limits.Row.{Row}
use Rattle.layout.specs.declared.limits.Steps.{Steps}
use Rattle.layout.specs.declared.limits.Timing.{Timing}
use Rattle.layout.specs.declared.limits.Limits.{Limits}

-- two bytes, the low one first
abbrev pub word : List ℕ → ℕ → ℕ
word image p = slice_index image p + slice_index image (p + 1) * 256

-- one byte in two's complement
abbrev pub signed : List ℕ → ℕ → ℤ
signed image p = to_z w8 (slice_index image p)

-- the five bodies, each field at its place
abbrev pub levels_of : List ℕ → Levels
levels_of m = record {
  trip = word m 22;
  release = word m 24;
  shutdown = word m 26;
  overdrop = word m 28;
  permanent = word m 30;
  charging = word m 32;
  discharging = word m 34;
  full = word m 36;
  fulldrop = word m 38;
  fullcurrent = word m 40;
  chargecfg = word m 42;
}

abbrev pub degrees_of : List ℕ → Degrees
degrees_of m = record {
  edges = signed m 44 ∷ signed m 45 ∷ signed m 46 ∷ signed m 47 ∷ signed m 48 ∷ signed m 49 ∷ signed m 50 ∷ signed m 51 ∷ [];
  hot = signed m 52;
  die = signed m 53;
  permanent = signed m 54;
  hysteresis = slice_index m 55;
}

-- the row whose first byte is p
abbrev pub row_of : List ℕ → ℕ → Row
row_of m p = record { current = word m p; voltage = word m (p + 2); level = word m (p + 4) }

abbrev pub steps_of : List ℕ → Steps
steps_of m = record { voltages = word m 98 ∷ word m 100 ∷ word m 102 ∷ word m 104 ∷ []; ratios = slice_index m 106 ∷ slice_index m 107 ∷ slice_index m 108 ∷ slice_index m 109 ∷ [] }

abbrev pub timing_of : List ℕ → Timing
timing_of m = record { delaycfg = word m 110; enabled = word m 112 }

-- the whole sheet, rows from Cold2 to Hot2
unfoldable pub limits_of : List ℕ → Limits
limits_of m = record {
  levels = levels_of m;
  degrees = degrees_of m;
  rows = row_of m 56 ∷ row_of m 62 ∷ row_of m 68 ∷ row_of m 74 ∷ row_of m 80 ∷ row_of m 86 ∷ row_of m 92 ∷ [];
  steps = steps_of m;
  timing = timing_of m;
}
