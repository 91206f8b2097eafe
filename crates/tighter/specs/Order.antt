-- A tight pack and a loose one, both new, that are given the same records. Records have the newest first.
use Rattle.std.specs.Prelude.{◌≡◌, ℕ, ◌≤◌, true, List, [], ◌∷◌, ◌++◌, map, reverse, Some, None, Option}
use Rattle.std.specs.Borrow.{Bor}
use Rattle.sheet.specs.declared.limits.Limits.{Limits}
use Rattle.order.specs.Generous.{Generous}
use Rattle.prescribers.specs.Order.{Under}
use Rattle.answers.specs.declared.answer.Answer.{Answer}
use Rattle.pack.specs.declared.state.State.{State}
use Rattle.pack.specs.Steps.{Meaning, answered}
use Rattle.pack.specs.Exact.{bit_at, left}

-- both refuse alike; every fault of the loose answer stands in the tight one; a switch that is on in the tight one is on in the
-- loose one; the tight one prescribes no more
pub record NeverMore (tight loose : Answer) : Type 0 where
  pub refusal : tight.refusal ≡ loose.refusal
  pub faults : (k : ℕ) → bit_at loose.faults k ≡ true → bit_at tight.faults k ≡ true
  pub charge : tight.charge ≡ true → loose.charge ≡ true
  pub discharge : tight.discharge ≡ true → loose.discharge ≡ true
  pub current : tight.current ≤ loose.current
  pub voltage : tight.voltage ≤ loose.voltage

-- what a new pack answers to a record, after earlier ones
abbrev pub answer_after : Limits → Meaning → List (List ℕ) → List ℕ → Answer
answer_after l gives earlier bytes = answered l gives (left l earlier) bytes

-- after each record of the list the tight pack does no more than the loose one
abbrev pub TighterRun : Limits → Meaning → Limits → Meaning → List (List ℕ) → Type 0
TighterRun a f b g records =
    (later : List (List ℕ)) (bytes : List ℕ) (earlier : List (List ℕ)) → records ≡ later ++ (bytes ∷ earlier)
    → NeverMore (answer_after a f earlier bytes) (answer_after b g earlier bytes)

-- a tighter pack never does more: for sheets in order and prescribers in order, whatever the records are
abbrev pub TighterNeverMore : Limits → Meaning → Limits → Meaning → List (List ℕ) → Type 0
TighterNeverMore a f b g records = Generous b a → Under f g → TighterRun a f b g records

-- the same of one more record, to two packs that were new before the same records
abbrev pub TighterCall : Limits → Meaning → State → Limits → Meaning → State → Answer → Answer → Type 0
TighterCall a f x b g y tight loose = Generous b a → Under f g → (earlier : List (List ℕ)) → x ≡ left a earlier → y ≡ left b earlier → NeverMore tight loose

-- the answers of both to the newest of the records
abbrev pub last_answers : Limits → Meaning → Limits → Meaning → List (List ℕ) → Option (Answer × Answer)
last_answers a f b g [] = None
last_answers a f b g (bytes ∷ earlier) = Some (answer_after a f earlier bytes, answer_after b g earlier bytes)

-- a lent list of records, which has the newest last
abbrev pub newest_first : List (Bor (List ℕ)) → List (List ℕ)
newest_first records = reverse (map (λ r. r.now) records)
