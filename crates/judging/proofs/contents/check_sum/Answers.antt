use Rattle.std.proofs.Common.{arith}
use Rattle.std.proofs.lemmas.Bool.Decides.{nat_tests}
use Rattle.layout.specs.Decoded.{summed}
use Rattle.judging.proofs.contents.check_sum.Goals as goal

pub returns-then-body_sum-word_at : goal.returns-then-body_sum-word_at
unfolding summed
returns-then-body_sum-word_at c = grind (arith, nat_tests)

pub returns-else-body_sum-word_at : goal.returns-else-body_sum-word_at
unfolding summed
returns-else-body_sum-word_at c = grind (arith, nat_tests)
