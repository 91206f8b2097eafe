use Rattle.std.proofs.Common.{take, refl, ◌∙◌, rules}
use Rattle.writing.proofs.Growing.{grow, grow_words, with_steps}
use Rattle.writing.proofs.put_steps.Goals as goal

pub returns : goal.returns
returns c =
    let e1 = grow_words 98 4 106 c.put_words.new.out c.args.out.now c.args.s.now.voltages _ _ c.put_words.ensures (search rules) refl refl refl in
    let e2 = grow 106 4 110 c.put.new.out c.put_words.new.out c.args.s.now.ratios _ _ c.put.ensures (search rules) refl refl e1 in
    e2 ∙ with_steps (take 98 c.args.out.now) c.args.s.now (search rules) (search rules)
