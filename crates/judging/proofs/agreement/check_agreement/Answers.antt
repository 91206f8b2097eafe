use Rattle.std.proofs.Common.{rules}
use Rattle.layout.specs.Rules.{row_conflicts}
use Rattle.judging.proofs.Breaking.{conflicts_first}
use Rattle.judging.proofs.agreement.check_agreement.Goals as goal

pub returns : goal.returns
returns c =
    let o = conflicts_first c.args.l.now in
    let rows = c.first_broken_row-rows.ensures (row_conflicts c.args.l.now.levels.overdrop) (λ p found post. search rules) in
    search rules
