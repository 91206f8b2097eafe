use Rattle.std.proofs.Common.{◌≡◌, sym, subst, rules}
use Rattle.reading.specs.declared.reading.Reading.{Reading}
use Rattle.prescribers.specs.Pairs.{AtMost}
use Rattle.prescribers.specs.Usual.{stack_gives, usual_gives}
use Rattle.prescribers.proofs.Order.{usual_ordered}
use Rattle.prescribers.proofs.stack.usual.Goals as goal

pub returns-clause-ordered : goal.returns-clause-ordered
returns-clause-ordered c =
    let sheet = c.args.sheet.now in
    let meaning : (r : Reading) → stack_gives c.new-3.result r ≡ usual_gives sheet.limits r = search rules in
    λ b g r h. subst (λ p. AtMost p (usual_gives b.limits r)) (sym (meaning r)) (usual_ordered sheet b g r h)
