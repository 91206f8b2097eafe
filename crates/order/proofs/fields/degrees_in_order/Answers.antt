use Rattle.std.proofs.Common.{rules}
use Rattle.order.proofs.fields.degrees_in_order.Goals as goal

pub returns-then-limits : goal.returns-then-limits
returns-then-limits c = search rules depth 8

pub returns-else-limits : goal.returns-else-limits
returns-else-limits c = search rules depth 8
