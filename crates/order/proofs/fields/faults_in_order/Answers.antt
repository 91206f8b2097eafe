use Rattle.std.proofs.Common.{◌≡◌, ◌/◌, ◌%◌, ◌^◌, arith, rules}
use Rattle.order.proofs.Below.{decides_below}
use Rattle.order.proofs.fields.faults_in_order.Goals as goal

pub returns : goal.returns
returns c =
    let b = c.args.b in
    let a = c.args.a in
    decides_below _ _ (λ k. b / 2 ^ k % 2 ≡ 1 → a / 2 ^ k % 2 ≡ 1) 13 (λ x r f' k. search rules) (λ k r l called. search rules) _ _ (omega arith) (omega arith) c.all.ensures.runs
