use Rattle.std.proofs.Common.{◌≡◌, ◌<◌, ◌^◌, cond, nat_le, arith, rules}
use Rattle.std.specs.List.{sum_by}
use Rattle.std.proofs.iter.runs.Made.{chains}
use Rattle.std.proofs.lemmas.List.Sums.{count_by-le-length}
use Rattle.prescribers.proofs.step.count_reached.Goals as goal

pub sum-requires-clause-fits : goal.sum-requires-clause-fits
sum-requires-clause-fits c =
    let few : sum_by (λ s. cond (nat_le s c.args.voltage) 1 0) c.args.voltages.now < 2 ^ 64 = omega (arith, count_by-le-length (λ s. nat_le s c.args.voltage) c.args.voltages.now, c.told-voltages) in
    search (rules, chains)

pub returns : goal.returns
returns c =
    let reached : c.sum.result ≡ sum_by (λ s. cond (nat_le s c.args.voltage) 1 0) c.args.voltages.now = search (rules, chains) in
    record { value = reached; bound = omega (arith, reached, count_by-le-length (λ s. nat_le s c.args.voltage) c.args.voltages.now, c.told-voltages) }
