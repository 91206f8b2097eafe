use Rattle.std.proofs.Common.{◌≡◌, ◌≤◌, ◌<◌, ◌^◌, cond, List, length, ℤ, pos, ◌*ℤ◌, int_le, refl, arith, rules, ◌∙◌, sym}
use Rattle.std.specs.List.{sum_by}
use Rattle.std.proofs.iter.runs.Made.{chains}
use Rattle.std.proofs.lemmas.List.Recursion.{is_sum_by}
use Rattle.std.proofs.lemmas.List.Sums.{count_by-le-length}
use Rattle.reading.specs.Regions.{reached_by}
use Rattle.reading.proofs.region.count_reached.Goals as goal

-- the edges that are reached are counted
counted : (es : List ℤ) (t : ℤ) → reached_by es t ≡ sum_by (λ e. cond (int_le (e *ℤ pos 256) t) 1 0) es
counted es t = is_sum_by (λ xs. reached_by xs t) (λ e. cond (int_le (e *ℤ pos 256) t) 1 0) refl (λ _ _. refl) es

most : (es : List ℤ) (t : ℤ) → sum_by (λ e. cond (int_le (e *ℤ pos 256) t) 1 0) es ≤ length es
most es t = count_by-le-length (λ e. int_le (e *ℤ pos 256) t) es

pub sum-requires-clause-fits : goal.sum-requires-clause-fits
sum-requires-clause-fits c =
    let few : sum_by (λ e. cond (int_le (e *ℤ pos 256) c.args.cell) 1 0) c.args.edges.now < 2 ^ 64 = omega (arith, most c.args.edges.now c.args.cell, c.told-edges) in
    search (rules, chains)

pub returns : goal.returns
returns c =
    let es = c.args.edges.now in
    let t = c.args.cell in
    let reached : c.sum.result ≡ sum_by (λ e. cond (int_le (e *ℤ pos 256) t) 1 0) es = search (rules, chains) in
    record { value = reached ∙ sym (counted es t); bound = omega (arith, reached, most es t, c.told-edges) }
