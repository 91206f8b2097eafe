use Rattle.std.proofs.Common.{◌≡◌, reverse, sym, ◌∙◌, subst, arith, rules, tests}
use Rattle.std.specs.List.{fold}
use Rattle.std.proofs.lemmas.Iterator.Adapters.{YieldsList-from_rev_slice}
use Rattle.std.proofs.lemmas.Iterator.Consumers.{fold_from_yields_List}
use Rattle.timing.specs.Mask.{mask_of, BitsOf}
use Rattle.timing.proofs.Masks.{with_bit, mask_folds, mask_bits}
use Rattle.timing.proofs.mask.Goals as goal

pub returns : goal.returns
returns c =
    let faults = c.args.faults.now in
    let folded : c.fold.result ≡ fold with_bit 0 (reverse faults) =
    fold_from_yields_List _ with_bit 0 c.fold.result c.fold.ensures.ran (YieldsList-from_rev_slice faults (search rules)) (λ a x b q k. search (rules, tests)) in
    let value : c.fold.result ≡ mask_of faults = folded ∙ mask_folds faults (omega arith) in
    record { value = value; bits = subst (BitsOf faults) (sym value) (mask_bits faults) }
