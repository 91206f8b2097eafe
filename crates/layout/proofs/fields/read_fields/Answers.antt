use Rattle.std.proofs.Common.{◌+◌, ◌*◌, rules}
use Rattle.layout.specs.Fields.{row_of, limits_of}
use Rattle.layout.specs.Charging.{no_row}
use Rattle.layout.proofs.Made.{made_of}
use Rattle.layout.proofs.fields.read_fields.Goals as goal

pub returns : goal.returns
unfolding limits_of
returns c =
    let rows = made_of _ _ (λ i. row_of c.args.image.now (56 + 6 * i)) (λ i y q call. search rules) _ 7 no_row c.from_fn.ensures.items in
    cc
