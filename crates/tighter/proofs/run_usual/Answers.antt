use Rattle.std.proofs.Common.{◌≡◌, ◌∙◌, subst}
use Rattle.prescribers.specs.Usual.{stack_gives, usual_gives}
use Rattle.prescribers.proofs.Order.{usual_ordered}
use Rattle.pack.specs.Steps.{Meaning}
use Rattle.tighter.specs.Order.{newest_first, last_answers, TighterNeverMore}
use Rattle.tighter.proofs.run_usual.Goals as goal

pub returns : goal.returns
returns c =
    let s = c.args.tight in
    let t = c.args.loose in
    let rs = newest_first c.args.records.now in
    let f : ◌≡◌ {A = Meaning} (stack_gives c.usual-cautious.result) (usual_gives s.limits) = λ i r. c.usual-cautious.ensures.meaning r i in
    let k : ◌≡◌ {A = Meaning} (stack_gives c.usual-generous.result) (usual_gives t.limits) = λ i r. c.usual-generous.ensures.meaning r i in
    let law : Meaning → Meaning → Type 0 = λ x y. TighterNeverMore s.limits x t.limits y rs in
    record {
      last = c.run_both.ensures.last ∙ (λ i. last_answers s.limits (f i) t.limits (k i) rs);
      ordered = λ g. subst (λ x. law x (usual_gives t.limits)) f (subst (law (stack_gives c.usual-cautious.result)) k c.run_both.ensures.ordered) g (usual_ordered s t g);
    }
