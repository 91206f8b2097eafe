-- The level in force, in terms of the readings alone. A history has its newest reading first.
use Rattle.std.specs.Prelude.{◌≡◌, ℕ, ◌+◌, ◌<◌, ◌≤◌, ◌⊎◌, List, [], ◌∷◌, map, length, take, slice_index}
use Rattle.std.specs.List.{AllZip, AllByRecursion}
use Rattle.inforce.specs.Ages.{Mark, ages_of}

-- the sum of elapsed times
abbrev pub total : List ℕ → ℕ
total [] = 0
total (t ∷ ts) = t + total ts

-- the k-th newest reading counts: it is the newest, or the times since it total less than the delay
abbrev pub Counts : ℕ → List ℕ → ℕ → Type 0
Counts delay times k = (k ≡ 0) ⊎ (total (take k times) < delay)

-- v is the greatest among the levels of the readings that count; times and levels have an entry for each reading
pub record InForce (delay : ℕ) (times levels : List ℕ) (v : ℕ) : Type 0 where
  pub bound : (k : ℕ) → k < length levels → Counts delay times k → slice_index levels k ≤ v
  pub place : ℕ
  pub within : place < length levels
  pub counts : Counts delay times place
  pub reached : v ≡ slice_index levels place

-- the time before each reading
abbrev pub times_of : List Mark → List ℕ
times_of history = map (λ m. m.elapsed) history

-- each reading's level, from the levels of the rows
abbrev pub levels_of_marks : List ℕ → List Mark → List ℕ
levels_of_marks levels history = map (λ m. slice_index levels m.row) history

-- for every history whose ages these are, and whose newest reading has the level own, v is the level in force
abbrev pub LevelExact : ℕ → ℕ → List ℕ → List ℕ → ℕ → Type 0
LevelExact delay own ages levels v =
    (newest : Mark) (older : List Mark) → AllByRecursion (λ m. m.row < 7) (newest ∷ older) → ages ≡ ages_of (newest ∷ older) → own ≡ slice_index levels newest.row
    → InForce delay (times_of (newest ∷ older)) (levels_of_marks levels (newest ∷ older)) v

-- a longer delay and no lower levels, at the same times, never put a lower level in force
abbrev pub LevelOrdered : ℕ → ℕ → Type 0
LevelOrdered delay v =
    (longer : ℕ) (times levels higher : List ℕ) (w : ℕ) → delay ≤ longer → AllZip (λ l h. l ≤ h) levels higher → InForce delay times levels v → InForce longer times higher w → v ≤ w
