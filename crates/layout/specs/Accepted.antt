-- What every sheet keeps: the invariant of its type.
use Rattle.std.specs.Prelude.{Bool, true, ◌&&◌, List, [], ◌∷◌, length, ℤ, pos, negsuc, ◌==◌, int_le}
use Rattle.layout.specs.declared.limits.Degrees.{Degrees}
use Rattle.layout.specs.declared.limits.Limits.{Limits}
use Rattle.layout.specs.Rules.{all_kept, range_rules, conflict_rules}

-- every field is in range, and the fields agree
unfoldable pub sound : Limits → Bool
sound l = all_kept (range_rules l) && all_kept (conflict_rules l)

-- a signed byte
abbrev pub is_byte : ℤ → Bool
is_byte z = int_le (negsuc 127) z && int_le z (pos 127)

abbrev pub all_bytes : List ℤ → Bool
all_bytes [] = true
all_bytes (z ∷ zs) = is_byte z && all_bytes zs

abbrev pub degrees_fit : Degrees → Bool
degrees_fit d = all_bytes d.edges && (is_byte d.hot && (is_byte d.die && is_byte d.permanent))

abbrev pub lengths_fit : Limits → Bool
lengths_fit l = length l.degrees.edges == 8 && (length l.rows == 7 && (length l.steps.voltages == 4 && length l.steps.ratios == 4))

-- the tables have their lengths, and each degree fits its byte
unfoldable pub fits : Limits → Bool
fits l = lengths_fit l && degrees_fit l.degrees
