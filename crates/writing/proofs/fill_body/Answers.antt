use Rattle.std.proofs.Common.{◌++◌, refl, ap, ◌∙◌, rules}
use Rattle.std.specs.List.{flat_map}
use Rattle.layout.specs.Encoded.{degree_bytes, row_bytes, step_bytes, timing_bytes}
use Rattle.writing.proofs.Growing.{grow_words, grown}
use Rattle.writing.proofs.fill_body.Goals as goal

pub returns : goal.returns
returns c =
    let e2 = grow_words 22 11 44 c.put_words.new.out c.put.new.out c.level_words.result _ _ c.put_words.ensures (search rules) refl c.level_words.ensures c.put.ensures in
    let e3 = c.put_degrees.ensures ∙ ap (λ b. b ++ degree_bytes c.args.l.now.degrees) e2 in
    let e4 = c.put_rows.ensures ∙ ap (λ b. b ++ flat_map row_bytes c.args.l.now.rows) e3 in
    let e5 = c.put_steps.ensures ∙ ap (λ b. b ++ step_bytes c.args.l.now.steps) e4 in
    c.put_words-2.ensures ∙ ap (λ b. b ++ timing_bytes c.args.l.now.timing) e5 ∙ grown c.args.l.now
