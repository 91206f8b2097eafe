use Rattle.std.proofs.Common.{sym, subst, rules}
use Rattle.faults.specs.Observed.{observations}
use Rattle.faults.specs.Order.{AllTighter}
use Rattle.faults.proofs.Order.{all_tighter}
use Rattle.faults.proofs.observing.observe.Goals as goal

pub returns-clause-value : goal.returns-clause-value
unfolding observations
returns-clause-value c = search rules

pub returns-clause-ordered : goal.returns-clause-ordered
returns-clause-ordered c =
    let l = c.args.sheet.now.limits in
    let p = c.args.p.now in
    subst (AllTighter l p) (sym (returns-clause-value c)) (all_tighter l p)
