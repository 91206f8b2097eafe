-- How a reading moves the ages of the rows, and the level that the ages put in force.
use Rattle.std.specs.Prelude.{ℕ, ◌+◌, min, max, Bool, if◌then◌else◌, List, [], ◌∷◌, map, replicate, nat_lt, slice_set}

-- a reading, by the row of the table that it fell in and the time since the reading before it
pub record Mark : Type 0 where
  pub row : ℕ
  pub elapsed : ℕ

-- no row has been seen
abbrev pub unseen : List ℕ
unseen = replicate 7 4294967295

-- an age saturates at the greatest u32, which no delay exceeds
abbrev pub older_by : ℕ → ℕ → ℕ
older_by elapsed age = min (age + elapsed) 4294967295

-- each row grows older and the reading's own row starts anew; no row does where there is none of that number
abbrev pub aged : ℕ → ℕ → List ℕ → List ℕ
aged row elapsed ages = slice_set (map (older_by elapsed) ages) row 0

-- the ages after a history, newest reading first
abbrev pub ages_of : List Mark → List ℕ
ages_of [] = unseen
ages_of (m ∷ older) = aged m.row m.elapsed (ages_of older)

-- a row's level counts if the row is young
abbrev pub raised_by : Bool → ℕ → ℕ → ℕ
raised_by young level best = if young then max best level else best

-- the greatest among a reading's own level and the levels of the rows that are younger than the delay
abbrev pub level_in_force : ℕ → ℕ → List ℕ → List ℕ → ℕ
level_in_force delay own [] levels = own
level_in_force delay own (a ∷ ages) [] = own
level_in_force delay own (a ∷ ages) (l ∷ levels) = level_in_force delay (raised_by (nat_lt a delay) l own) ages levels
