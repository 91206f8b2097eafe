use Rattle.std.proofs.Common.{◌≡◌, ◌+◌, ◌*◌, refl, sym, ◌∙◌, arith}
use Rattle.judging.proofs.Breaking.{row_step, row_end}
use Rattle.judging.proofs.row.first_broken_row.Goals as goal

pub loop-i-init : goal.loop-i-init
loop-i-init g c = λ rules posts. refl

pub returns-then-is_some : goal.returns-then-is_some
returns-then-is_some g c = λ rules posts.
    let here = posts _ _ c.broken-found.ensures in
    let o = row_step rules (56 + 6 * c.loop-i.i) c.args.rows.now c.loop-i.i (omega arith) in
    let inv = c.loop-i.invariant rules posts in
    grind arith

pub loop-i-preserved : goal.loop-i-preserved
loop-i-preserved g c = λ rules posts.
    let here = posts _ _ c.broken-found.ensures in
    let o = row_step rules (56 + 6 * c.loop-i.i) c.args.rows.now c.loop-i.i (omega arith) in
    let next : 56 + 6 * (c.loop-i.i + 1) ≡ 56 + 6 * c.loop-i.i + 6 = omega arith in
    let inv = c.loop-i.invariant rules posts in
    grind arith

pub returns : goal.returns
returns g c = λ rules posts.
    sym (row_end rules (56 + 6 * c.loop-i.i) c.args.rows.now c.loop-i.i (omega arith)) ∙ c.loop-i.invariant rules posts
