-- What the invariant of a sheet says of its fields.
use Rattle.std.proofs.Common.{◌≡◌, ℕ, zero, suc, ◌≤◌, true, eqb, List, ◌++◌, length, get_or, sym, subst, inl, inr, le_trans, le_refl, arith}
use Rattle.std.proofs.lemmas.Bool.{and_parts, eqb-true, cases_eq}
use Rattle.std.proofs.lemmas.Bool.Decides.{nat_tests}
use Rattle.std.proofs.lemmas.List.{get_or_past}
use Rattle.layout.specs.declared.limits.Limits.{Limits}
use Rattle.layout.specs.declared.rule.Rule.{Rule}
use Rattle.layout.specs.Rules.{all_kept, row_ranges, each_row, step_ranges, timing_ranges, range_rules, level_conflicts, edge_conflicts, row_conflicts, step_conflicts, conflict_rules}
use Rattle.layout.specs.Accepted.{sound, fits, lengths_fit, degrees_fit}
use Rattle.layout.specs.Ranged.{all_left, all_right, row_rules}
use Rattle.layout.proofs.Listed.{Sized}

module _ (l : Limits) (valid : sound l ≡ true) where
  step_ranges_lem : all_kept (step_ranges l.steps) ≡ true
  step_ranges_lem =
      all_left (step_ranges l.steps) (timing_ranges l.timing)
      (all_right (each_row row_ranges 56 l.rows) (step_ranges l.steps ++ timing_ranges l.timing) (row_rules l valid))

  step_conflicts_lem : all_kept (step_conflicts l.steps) ≡ true
  unfolding sound conflict_rules
  step_conflicts_lem =
      let rows : List Rule = each_row (row_conflicts l.levels.overdrop) 56 l.rows in
      let all = (and_parts (all_kept (range_rules l)) (all_kept (conflict_rules l)) valid).1 in
      all_right rows (step_conflicts l.steps)
      (all_right (edge_conflicts l.degrees.edges) (rows ++ step_conflicts l.steps) (all_right (level_conflicts l.levels) (edge_conflicts l.degrees.edges ++ (rows ++ step_conflicts l.steps)) all))

-- the tables of a sheet have their lengths
pub lengths : (l : Limits) → fits l ≡ true → Sized l
unfolding fits
lengths l f =
    let a = and_parts (eqb (length l.degrees.edges) 8) _ (and_parts (lengths_fit l) (degrees_fit l.degrees) f).0 in
    let b = and_parts (eqb (length l.rows) 7) _ a.1 in
    let c = and_parts (eqb (length l.steps.voltages) 4) (eqb (length l.steps.ratios) 4) b.1 in
    record { edges = eqb-true _ _ a.0; rows = eqb-true _ _ b.0; voltages = eqb-true _ _ c.0; ratios = eqb-true _ _ c.1 }

-- what does not rise from one place to the next does not rise from any place to a later one
falls : (f : ℕ → ℕ) → ((k : ℕ) → f (suc k) ≤ f k) → (i j : ℕ) → i ≤ j → f j ≤ f i
falls f next i zero h = let e : 0 ≡ i = omega arith in subst (λ k. f 0 ≤ f k) e (le_refl (f 0))
falls f next i (suc j) h =
    elim (cases_eq i (suc j)) [
      | inl e ↦ subst (λ k. f (suc j) ≤ f k) (sym e) (le_refl (f (suc j)))
      | inr n ↦ le_trans (next j) (falls f next i j (omega arith))
    ]

module _ (l : Limits) (valid : sound l ≡ true) (sized : fits l ≡ true) where
  -- past the fourth ratio stands 0, so neither fact needs a bound on the place
  past : (k : ℕ) → 4 ≤ k → get_or l.steps.ratios k 0 ≡ 0
  past k h = get_or_past l.steps.ratios k 0 (omega (arith, (lengths l sized).ratios))

  pub ratios_small : (k : ℕ) → get_or l.steps.ratios k 0 ≤ 16
  ratios_small zero = let t = step_ranges_lem l valid in grind (arith, nat_tests)
  ratios_small (suc zero) = let t = step_ranges_lem l valid in grind (arith, nat_tests)
  ratios_small (suc (suc zero)) = let t = step_ranges_lem l valid in grind (arith, nat_tests)
  ratios_small (suc (suc (suc zero))) = let t = step_ranges_lem l valid in grind (arith, nat_tests)
  ratios_small (suc (suc (suc (suc k)))) = omega (arith, past (suc (suc (suc (suc k)))) (omega arith))

  next-ratio : (k : ℕ) → get_or l.steps.ratios (suc k) 0 ≤ get_or l.steps.ratios k 0
  next-ratio zero = let t = step_conflicts_lem l valid in grind (arith, nat_tests)
  next-ratio (suc zero) = let t = step_conflicts_lem l valid in grind (arith, nat_tests)
  next-ratio (suc (suc zero)) = let t = step_conflicts_lem l valid in grind (arith, nat_tests)
  next-ratio (suc (suc (suc k))) = omega (arith, past (suc (suc (suc (suc k)))) (omega arith))

  pub ratios_fall : (i j : ℕ) → i ≤ j → get_or l.steps.ratios j 0 ≤ get_or l.steps.ratios i 0
  ratios_fall = falls (λ k. get_or l.steps.ratios k 0) next-ratio
