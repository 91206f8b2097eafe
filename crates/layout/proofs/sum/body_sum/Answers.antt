use Rattle.std.proofs.Common.{arith, length-take}
use Rattle.layout.proofs.sum.body_sum.Goals as goal

pub slice_bounds-total-end : goal.slice_bounds-total-end
slice_bounds-total-end c = simp length-take (omega arith)
