use Rattle.std.proofs.Common.{rules}
use Rattle.layout.specs.Rules.{row_ranges}
use Rattle.judging.proofs.Breaking.{ranges_first}
use Rattle.judging.proofs.ranges.check_ranges.Goals as goal

pub returns : goal.returns
returns c =
    let o = ranges_first c.args.l.now in
    let rows = c.first_broken_row-rows.ensures row_ranges (λ p found post. search rules) in
    search rules
