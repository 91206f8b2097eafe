use Rattle.std.proofs.Common.{◌+◌, pos, int_le, get_or, false, rules}
use Rattle.layout.proofs.Made.{made_of}
use Rattle.judging.proofs.agreement.edge_conflicts.Goals as goal

pub returns : goal.returns
returns c =
    let edges = c.args.edges.now in
    made_of _ _ (λ i. record { place = 45 + i; kept = int_le (get_or edges i (pos 0)) (get_or edges (i + 1) (pos 0)) }) (λ i y q call. search rules) _ 7 (record { place = 0; kept = false }) c.from_fn.ensures.items
