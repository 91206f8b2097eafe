use Rattle.std.proofs.Common.{◌+◌, pos, rules}
use Rattle.layout.specs.Fields.{signed}
use Rattle.layout.proofs.Made.{made_of}
use Rattle.layout.proofs.fields.read_degrees.Goals as goal

pub returns : goal.returns
returns c =
    let edges = made_of _ _ (λ i. signed c.args.image.now (44 + i)) (λ i y q call. search rules) _ 8 (pos 0) c.from_fn.ensures.items in
    search (rules, edges)
