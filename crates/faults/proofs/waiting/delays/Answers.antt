use Rattle.std.proofs.Common.{sym, subst, rules}
use Rattle.faults.specs.Observed.{fault_delays}
use Rattle.faults.specs.Order.{NoDelayLonger}
use Rattle.faults.proofs.Order.{no_delay_longer}
use Rattle.faults.proofs.waiting.delays.Goals as goal

pub returns-clause-value : goal.returns-clause-value
unfolding fault_delays
returns-clause-value c = search rules

pub returns-clause-ordered : goal.returns-clause-ordered
returns-clause-ordered c =
    let l = c.args.sheet.now.limits in
    subst (NoDelayLonger l) (sym (returns-clause-value c)) (no_delay_longer l)
