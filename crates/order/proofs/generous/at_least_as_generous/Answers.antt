use Rattle.std.proofs.Common.{true, ◌≡◌, rules}
use Rattle.order.specs.Generous.{Generous}
use Rattle.order.proofs.Degrees.{follows}
use Rattle.order.proofs.generous.at_least_as_generous.Goals as goal

pub returns-then-degrees_in_order-clause-follows : goal.returns-then-degrees_in_order-clause-follows
returns-then-degrees_in_order-clause-follows c =
    let generous : c.zones_in_order.result ≡ true → Generous c.args.b.now.limits c.args.a.now.limits = search rules in
    λ e. follows _ _ (generous e)
