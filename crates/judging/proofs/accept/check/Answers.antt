use Rattle.std.proofs.Common.{arith, rules}
use Rattle.std.proofs.lemmas.Bool.Decides.{nat_tests}
use Rattle.layout.specs.Decoded.{decoded}
use Rattle.layout.proofs.Sized.{sized}
use Rattle.judging.proofs.accept.check.Goals as goal

pub returns-in_default : goal.returns-in_default
unfolding decoded
returns-in_default c = grind (arith, nat_tests)

pub returns-in_err-check_contents : goal.returns-in_err-check_contents
returns-in_err-check_contents c = let o = sized c.args.image.now (search rules) in search rules

pub returns-in_err-check_sum : goal.returns-in_err-check_sum
returns-in_err-check_sum c = let o = sized c.args.image.now (search rules) in search rules

pub returns-in_err-check_ranges : goal.returns-in_err-check_ranges
returns-in_err-check_ranges c = let o = sized c.args.image.now (search rules) in search rules

pub returns-in_err-check_agreement : goal.returns-in_err-check_agreement
returns-in_err-check_agreement c = let o = sized c.args.image.now (search rules) in search rules

pub returns : goal.returns
returns c = let o = sized c.args.image.now (search rules) in search rules
