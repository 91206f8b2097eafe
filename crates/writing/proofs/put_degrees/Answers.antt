use Rattle.std.proofs.Common.{take, [], ◌∷◌, pos, of_z, w8, refl, ◌∙◌, append_assoc, rules}
use Rattle.std.proofs.lemmas.List.FromFn.{fill_by_all}
use Rattle.layout.specs.Encoded.{byte}
use Rattle.writing.proofs.Growing.{grow}
use Rattle.writing.proofs.put_degrees.Goals as goal

pub returns : goal.returns
returns c =
    let d = c.args.d.now in
    let items = c.map.ensures.items in
    let edges = fill_by_all (byte d.edges) c.map.result 8 0 items.long (λ i h. let call = (items.at i (pos 0) 0 h).2 in search rules) in
    let e1 = grow 44 8 52 c.put.new.out c.args.out.now c.map.result _ _ c.put.ensures items.long refl edges refl in
    let e2 = grow 52 4 56 c.put-2.new.out c.put.new.out _ _ (of_z w8 d.hot ∷ of_z w8 d.die ∷ of_z w8 d.permanent ∷ d.hysteresis ∷ []) c.put-2.ensures refl refl (search rules) e1 in
    e2 ∙ append_assoc (take 44 c.args.out.now) _ _
