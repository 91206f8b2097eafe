use Rattle.std.proofs.Common.{rules}
use Rattle.std.proofs.iter.runs.Sources.{ranges}
use Rattle.order.proofs.fields.steps_in_order.Goals as goal

pub returns : goal.returns
returns c = search (rules, ranges)
