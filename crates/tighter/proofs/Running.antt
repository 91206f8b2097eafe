-- One record more, in the order that has the newest first.
use Rattle.std.proofs.Common.{◌≡◌, ℕ, ◌+◌, ◌<◌, List, [], ◌∷◌, map, reverse, length, get_or, take, Some, ap, ◌∙◌, Bor}
use Rattle.std.proofs.lemmas.List.{take_more, map-append, reverse-append}
use Rattle.sheet.specs.declared.limits.Limits.{Limits}
use Rattle.sheet.specs.declared.sheet.Sheet.{Sheet}
use Rattle.prescribers.specs.declared.prescriber.Prescriber.{Ghosts}
use Rattle.answers.specs.declared.answer.Answer.{Answer}
use Rattle.pack.specs.declared.minder.Pack.{Pack}
use Rattle.pack.specs.Steps.{Meaning, after, answered}
use Rattle.pack.specs.Exact.{left}
use Rattle.pack.specs.Called.{Called}
use Rattle.tighter.specs.Order.{newest_first, answer_after, last_answers}

-- what lies past the end of a list of records
abbrev pub nothing : Bor (List ℕ)
nothing = record { ref_ptr = (0, 0); now = [] }

pub newest_more : (xs : List (Bor (List ℕ))) (i : ℕ) (d : Bor (List ℕ)) → i < length xs → newest_first (take (i + 1) xs) ≡ (get_or xs i d).now ∷ newest_first (take i xs)
newest_more xs i d h =
    ap newest_first (take_more xs i d h)
    ∙ ap reverse (map-append (λ r. r.now) (take i xs) (get_or xs i d ∷ []))
    ∙ reverse-append (map (λ r. r.now) (take i xs)) ((get_or xs i d).now ∷ [])

-- a pack that was new, on this sheet and with this prescriber, before it was given these records
pub record Fed {P : Type 0} {z : Ghosts P} (s : Sheet) (prescriber : P) (records : List (List ℕ)) (pack : Pack P z) : Type 0 where
  pub sheet : pack.timed.sheet ≡ s
  pub same : pack.prescriber ≡ prescriber
  pub state : pack.state ≡ left s.limits records

module _ {P : Type 0} {z : Ghosts P} (s : Sheet) (prescriber : P) (rest : List (List ℕ)) (bytes : List ℕ) (old new : Pack P z) (a : Answer) (fed : Fed s prescriber rest old) (called : Called old bytes new a) where
  pub fed_more : Fed s prescriber (bytes ∷ rest) new
  fed_more = record {
    sheet = called.sheet ∙ fed.sheet;
    same = called.prescriber ∙ fed.same;
    state = called.state ∙ (λ i. after (fed.sheet i).limits (fed.state i) bytes);
  }

  pub fed_answer : a ≡ answer_after s.limits (z.gives prescriber) rest bytes
  fed_answer = called.answer ∙ (λ i. answered (fed.sheet i).limits (z.gives (fed.same i)) (fed.state i) bytes)

-- the answers of both to one record more
pub both_more : (a : Limits) (f : Meaning) (b : Limits) (k : Meaning) (r : Answer × Answer) (bytes : List ℕ) (rest more : List (List ℕ)) → r.0 ≡ answer_after a f rest bytes → r.1 ≡ answer_after b k rest bytes → bytes ∷ rest ≡ more → Some r ≡ last_answers a f b k more
both_more a f b k r bytes rest more e d p = (λ i. Some (e i, d i)) ∙ ap (last_answers a f b k) p
