-- When a fault stands, in terms of its readings alone. A history has its newest reading first.
use Rattle.std.specs.Prelude.{◌≡◌, ℕ, ◌+◌, ◌<◌, ◌≤◌, true, false, List, [], ◌∷◌, ◌++◌, length, Decides, slice_index, slice_index_or}
use Rattle.std.specs.List.{AllByRecursion}
use Rattle.timing.specs.declared.Watch.{Watch}
use Rattle.timing.specs.declared.Observation.{Observation}
use Rattle.timing.specs.Timing.{idle, all_standing, watched}

-- the time that a stretch of readings counts: the elapsed times of all of them, the first included
unfoldable pub counted : List Observation → ℕ
counted [] = 0
counted (o ∷ older) = o.elapsed + counted older

-- a fault stands exactly when its readings hold an unbroken stretch of at least one reading, each tripping it, whose counted
-- time is at least its delay, and no later reading releases it
pub record Stands (delay : ℕ) (history : List Observation) : Type 0 where
  pub later : List Observation
  pub stretch : List Observation
  pub before : List Observation
  pub parts : history ≡ later ++ (stretch ++ before)
  pub some : 1 ≤ length stretch
  pub tripped : AllByRecursion (λ o. o.trips ≡ true) stretch
  pub long : delay ≤ counted stretch
  pub unreleased : AllByRecursion (λ o. o.releases ≡ false) later

-- an observation that tells nothing; it stands for what lies past the end of a list
abbrev pub quiet : Observation
quiet = record { elapsed = 0; trips = false; releases = false }

-- each fault's history, by the fault's index, with one reading more
abbrev pub with_reading : List Observation → (ℕ → List Observation) → ℕ → List Observation
with_reading seen history k = slice_index_or seen k quiet ∷ history k

-- no fault has a reading
abbrev pub unread : ℕ → List Observation
unread k = []

-- the table holds the watch of each fault after that fault's history
pub record TableOf (delays : List ℕ) (history : ℕ → List Observation) (table : List Watch) : Type 0 where
  pub size : length table ≡ 13
  pub entry : (k : ℕ) → k < 13 → slice_index_or table k idle ≡ watched (slice_index delays k) (history k)

-- a table that fits a pack with no reading, whatever its delays are
abbrev pub UnreadTable : List Watch → Type 0
UnreadTable table = (delays : List ℕ) → TableOf delays unread table

-- a reading takes the table of any histories to that of the histories with the reading in front, and each fault then stands
-- exactly when its history says so
pub record ExactAfter (delays : List ℕ) (seen : List Observation) (before after : List Watch) : Type 0 where
  pub table : (history : ℕ → List Observation) → TableOf delays history before → TableOf delays (with_reading seen history) after
  pub exact : (history : ℕ → List Observation) → TableOf delays history before → (k : ℕ) → k < 13
      → Decides (slice_index_or (all_standing after) k false) (Stands (slice_index delays k) (with_reading seen history k))
