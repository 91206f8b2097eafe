use Rattle.std.proofs.Common.{rules}
use Rattle.sheet.specs.declared.limits.Row.{Row}
use Rattle.sheet.proofs.Facts.{lengths}
use Rattle.faults.proofs.Mapped.{mapped}
use Rattle.pack.proofs.timed.levels.Goals as goal

pub returns : goal.returns
returns c =
    let s = c.args.sheet.now in
    mapped _ (λ (r : Row). r.level) _ (λ x y q k. search rules) s.limits.rows c.map.result 7 (lengths s.limits s.sized).rows c.map.ensures.items
