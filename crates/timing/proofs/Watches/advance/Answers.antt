use Rattle.std.proofs.Common.{◌≡◌, sym, ◌∙◌, arith}
use Rattle.timing.specs.Timing.{all_stepped}
use Rattle.timing.proofs.Order.{ordered-after}
use Rattle.timing.proofs.Table.{rest_moved, rest_none, exact_after}
use Rattle.timing.proofs.Watches.advance.Goals as goal

-- one step for each entry, the last one first
pub returns : goal.returns
returns c =
    let ds = c.args.delays.now in
    let os = c.args.seen.now in
    let n = c.told-delays in
    let m = c.told-seen in
    let value : c.advance_one-13.new.self.table ≡ all_stepped ds os c.args.self.now.table =
    sym (rest_none 13 ds os _ n m) ∙
    rest_moved 12 ds os _ _ _ n m (omega arith) c.advance_one-13.ensures
    ∙ rest_moved 11 ds os _ _ _ n m (omega arith) c.advance_one-12.ensures
    ∙ rest_moved 10 ds os _ _ _ n m (omega arith) c.advance_one-11.ensures
    ∙ rest_moved 9 ds os _ _ _ n m (omega arith) c.advance_one-10.ensures
    ∙ rest_moved 8 ds os _ _ _ n m (omega arith) c.advance_one-9.ensures
    ∙ rest_moved 7 ds os _ _ _ n m (omega arith) c.advance_one-8.ensures
    ∙ rest_moved 6 ds os _ _ _ n m (omega arith) c.advance_one-7.ensures
    ∙ rest_moved 5 ds os _ _ _ n m (omega arith) c.advance_one-6.ensures
    ∙ rest_moved 4 ds os _ _ _ n m (omega arith) c.advance_one-5.ensures
    ∙ rest_moved 3 ds os _ _ _ n m (omega arith) c.advance_one-4.ensures
    ∙ rest_moved 2 ds os _ _ _ n m (omega arith) c.advance_one-3.ensures
    ∙ rest_moved 1 ds os _ _ _ n m (omega arith) c.advance_one-2.ensures
    ∙ rest_moved 0 ds os _ _ _ n m (omega arith) c.advance_one.ensures in
    record {
      value = value;
      exact = exact_after ds os _ _ n m (λ k _. c.fits-delays k) value;
      ordered = ordered-after ds os _ _ value;
    }
