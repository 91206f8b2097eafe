use Rattle.std.proofs.Common.{◌≡◌, sym, ◌∙◌, subst, arith, rules, tests}
use Rattle.std.specs.List.{fold, zip}
use Rattle.std.proofs.lemmas.Iterator.{YieldsList-from_slice, YieldsList-from_zip}
use Rattle.std.proofs.lemmas.Iterator.Consumers.{fold_from_yields_List}
use Rattle.inforce.specs.Ages.{level_in_force}
use Rattle.inforce.specs.Level.{LevelExact}
use Rattle.inforce.proofs.Exact.{level_exact}
use Rattle.inforce.proofs.Folded.{raised, level_folded}
use Rattle.inforce.proofs.Order.{level_ordered}
use Rattle.inforce.proofs.Ages.level.Goals as goal

pub returns : goal.returns
returns c =
    let delay = c.args.delay in
    let own = c.args.own in
    let ages = c.args.self.now.table in
    let levels = c.args.levels.now in
    let folded : c.fold.result ≡ fold (raised delay) own (zip ages levels) =
    fold_from_yields_List _ (raised delay) own c.fold.result c.fold.ensures.ran
    (YieldsList-from_zip (YieldsList-from_slice ages (search rules)) (YieldsList-from_slice levels (search rules)))
    (λ a x b q k. search (rules, tests)) in
    let value : c.fold.result ≡ level_in_force delay own ages levels = folded ∙ level_folded delay own ages levels in
    record {
      value = value;
      exact = subst (LevelExact delay own ages levels) (sym value) (level_exact delay own ages levels (omega arith) c.told-levels);
      ordered = level_ordered _ _;
    }
