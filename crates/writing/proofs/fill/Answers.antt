use Rattle.std.proofs.Common.{◌≡◌, ◌++◌, sum, sym, refl, ap, ◌∙◌, arith, rules}
use Rattle.std.proofs.lemmas.List.{take_all}
use Rattle.layout.specs.Encoded.{pair, body_of, image_of}
use Rattle.writing.proofs.Growing.{grow}
use Rattle.writing.proofs.fill.Goals as goal

pub returns : goal.returns
unfolding image_of
returns c =
    let bytes : c.to_le_bytes.result ≡ pair c.body_sum-sum.result = search rules in
    let all = take_all 116 c.put.new.out (omega arith) in
    let end = grow 114 2 116 c.put.new.out c.fill_body.new.out c.to_le_bytes.result _ _ c.put.ensures (search rules) refl bytes c.fill_body.ensures in
    sym all ∙ end ∙ ap (λ n. body_of c.args.l.now ++ pair n) (c.body_sum-sum.ensures ∙ ap sum c.fill_body.ensures)
