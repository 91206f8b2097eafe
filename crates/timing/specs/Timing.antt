-- How a reading moves the watch of a fault, and the whole table of watches.
use Rattle.std.specs.Prelude.{ℕ, ◌+◌, min, Bool, false, if◌then◌else◌, not, ◌&&◌, ◌||◌, List, [], ◌∷◌, map, replicate, nat_le}
use Rattle.timing.specs.declared.Watch.{Watch}
use Rattle.timing.specs.declared.Observation.{Observation}

-- the watch of a fault of which no reading has been seen
abbrev pub idle : Watch
idle = record { held = 0; standing = false }

-- the table of thirteen such watches
abbrev pub all_idle : List Watch
all_idle = replicate 13 idle

-- how long the fault has been tripped without a break: it saturates at the greatest u32, and a reading that does not trip
-- sets it back
abbrev pub held_after : Observation → ℕ → ℕ
held_after o held = if o.trips then min (held + o.elapsed) 4294967295 else 0

-- a fault starts to stand when it has been held for its delay, and then stands until a reading releases it
abbrev pub stepped : ℕ → Observation → Watch → Watch
stepped delay o w = record {
  held = held_after o w.held;
  standing = (o.trips && nat_le delay (held_after o w.held)) || (w.standing && not o.releases);
}

-- each entry of the table by its own delay and its own observation
abbrev pub all_stepped : List ℕ → List Observation → List Watch → List Watch
all_stepped [] seen table = table
all_stepped (d ∷ ds) [] table = table
all_stepped (d ∷ ds) (o ∷ os) [] = []
all_stepped (d ∷ ds) (o ∷ os) (w ∷ ws) = stepped d o w ∷ all_stepped ds os ws

-- whether each fault of the table stands
abbrev pub all_standing : List Watch → List Bool
all_standing table = map (λ w. w.standing) table

-- the watch of a fault after a history, newest reading first
abbrev pub watched : ℕ → List Observation → Watch
watched delay [] = idle
watched delay (o ∷ older) = stepped delay o (watched delay older)
