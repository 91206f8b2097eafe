-- What a pack owes at a record.
use Rattle.std.specs.Prelude.{◌≡◌, ℕ, List}
use Rattle.prescribers.specs.declared.prescriber.Prescriber.{Ghosts}
use Rattle.answers.specs.declared.answer.Answer.{Answer}
use Rattle.pack.specs.declared.minder.Pack.{Pack}
use Rattle.pack.specs.Steps.{after, answered}
use Rattle.pack.specs.Exact.{LevelsInForce, ExactAfter}

-- a record to a pack: its answer, and the pack that it leaves
pub record Called {P : Type 0} {z : Ghosts P} (old : Pack P z) (bytes : List ℕ) (new : Pack P z) (a : Answer) : Type 0 where
  -- by the state alone
  pub answer : a ≡ answered old.timed.sheet.limits (z.gives old.prescriber) old.state bytes
  -- and by the whole history of a pack that began as a new one
  pub exact : ExactAfter old.timed.sheet.limits (z.gives old.prescriber) old.state bytes a
  pub levels : LevelsInForce old.timed.sheet.limits
  pub sheet : new.timed.sheet ≡ old.timed.sheet
  pub prescriber : new.prescriber ≡ old.prescriber
  pub state : new.state ≡ after old.timed.sheet.limits old.state bytes
