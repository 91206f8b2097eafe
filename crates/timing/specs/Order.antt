-- Of two faults that watch the same readings, the tighter one never stands later.
use Rattle.std.specs.Prelude.{◌≡◌, ℕ, ◌≤◌, true, List, slice_index}
use Rattle.std.specs.List.{AllZip}
use Rattle.timing.specs.declared.Watch.{Watch}
use Rattle.timing.specs.declared.Observation.{Observation}
use Rattle.timing.specs.Timing.{all_idle, all_stepped}
use Rattle.timing.specs.Stands.{Stands, with_reading}

-- two rules see one reading: what trips the loose one trips the tight one, and what releases the tight one releases the loose one
pub record Tighter (tight loose : Observation) : Type 0 where
  pub elapsed : tight.elapsed ≡ loose.elapsed
  pub trips : loose.trips ≡ true → tight.trips ≡ true
  pub releases : tight.releases ≡ true → loose.releases ≡ true

-- the tight watch has been held for no less time, and stands if the loose one does
pub record Ahead (tight loose : Watch) : Type 0 where
  pub held : loose.held ≤ tight.held
  pub standing : loose.standing ≡ true → tight.standing ≡ true

-- two packs with no reading start level: each is ahead of the other
pub record LevelStart (table : List Watch) : Type 0 where
  pub ahead : AllZip Ahead table all_idle
  pub behind : AllZip Ahead all_idle table

-- a fault stands whenever one with no shorter a delay and looser observations of the same readings does
abbrev pub StandsOrdered : ℕ → List Observation → Type 0
StandsOrdered delay history = (longer : ℕ) (loose : List Observation) → delay ≤ longer → AllZip Tighter history loose → Stands longer loose → Stands delay history

-- a reading leaves the table ahead of that of any looser pack that it was ahead of, and orders the histories as well
pub record OrderedAfter (delays : List ℕ) (seen : List Observation) (before after : List Watch) : Type 0 where
  pub tables : (longer : List ℕ) (loose : List Observation) (behind : List Watch) → AllZip (λ d e. d ≤ e) delays longer → AllZip Tighter seen loose → AllZip Ahead before behind
      → AllZip Ahead after (all_stepped longer loose behind)
  pub stands : (history : ℕ → List Observation) (k : ℕ) → StandsOrdered (slice_index delays k) (with_reading seen history k)
