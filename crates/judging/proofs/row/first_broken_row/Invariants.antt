use Rattle.std.proofs.Common.{◌≡◌, ℕ, ◌+◌, ◌*◌, List, drop}
use Rattle.layout.specs.declared.limits.Row.{Row}
use Rattle.layout.specs.declared.rule.Rule.{Rule}
use Rattle.layout.specs.Rules.{first_broken, each_row}
use Rattle.judging.proofs.row.first_broken_row.Given as goal

-- the rows before this one keep their rules, whatever the rules are that the closure finds the first broken one of
abbrev pub invariant-loop-i : goal.invariant-loop-i
invariant-loop-i g l =
    (rules : ℕ → Row → List Rule)
    → ((p : _) (found : _) → goal.F-post g l.broken p found → found ≡ first_broken (rules p.place p.row))
    → first_broken (each_row rules (56 + 6 * l.i) (drop l.i l.rows)) ≡ first_broken (each_row rules 56 l.rows)
