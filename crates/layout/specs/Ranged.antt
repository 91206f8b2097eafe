-- Every row of an accepted sheet is in its ranges. It stands here and not with the other facts of a sheet, since a prescriber above owes
-- it as a law.
use Rattle.std.proofs.Common.{◌≡◌, ℕ, zero, suc, ◌+◌, ◌≤◌, true, leb, List, [], ◌∷◌, ◌++◌, get_or, refl, arith}
use Rattle.std.proofs.lemmas.Bool.{and_parts, and_from, leb-true}
use Rattle.layout.specs.declared.limits.Row.{Row}
use Rattle.layout.specs.declared.limits.Limits.{Limits}
use Rattle.layout.specs.declared.rule.Rule.{Rule}
use Rattle.layout.specs.Charging.{no_row}
use Rattle.layout.specs.Rules.{all_kept, level_ranges, degree_ranges, row_ranges, each_row, step_ranges, timing_ranges, range_rules, conflict_rules}
use Rattle.layout.specs.Accepted.{sound}

pub all_right : (a b : List Rule) → all_kept (a ++ b) ≡ true → all_kept b ≡ true
all_right [] b h = h
all_right (r ∷ a) b h = all_right a b (and_parts r.kept (all_kept (a ++ b)) h).1

pub all_left : (a b : List Rule) → all_kept (a ++ b) ≡ true → all_kept a ≡ true
all_left [] b h = refl
all_left (r ∷ a) b h = let p = and_parts r.kept (all_kept (a ++ b)) h in and_from r.kept (all_kept a) p.0 (all_left a b p.1)

-- a row in its ranges
pub record RowRanged (r : Row) : Type 0 where
  pub current : r.current ≤ 20000
  pub voltage : r.voltage ≤ 5000
  pub level : r.level ≤ 5000

row_ranged : (p : ℕ) (r : Row) → all_kept (row_ranges p r) ≡ true → RowRanged r
row_ranged p r h =
    let a = and_parts (leb r.current 20000) _ h in
    let b = and_parts (leb r.voltage 5000) _ a.1 in
    let c = and_parts (leb r.level 5000) true b.1 in
    record { current = leb-true _ _ a.0; voltage = leb-true _ _ b.0; level = leb-true _ _ c.0 }

none_ranged : RowRanged no_row
none_ranged = record { current = omega arith; voltage = omega arith; level = omega arith }

each_ranged : (p : ℕ) (rows : List Row) → all_kept (each_row row_ranges p rows) ≡ true → (i : ℕ) → RowRanged (get_or rows i no_row)
unfolding each_row
each_ranged p [] h i = none_ranged
each_ranged p (r ∷ rs) h zero = row_ranged p r (all_left (row_ranges p r) (each_row row_ranges (p + 6) rs) h)
each_ranged p (r ∷ rs) h (suc i) = each_ranged (p + 6) rs (all_right (row_ranges p r) (each_row row_ranges (p + 6) rs) h) i

module _ (l : Limits) (valid : sound l ≡ true) where
  -- the ranges from the rows on
  pub row_rules : all_kept (each_row row_ranges 56 l.rows ++ (step_ranges l.steps ++ timing_ranges l.timing)) ≡ true
  unfolding sound range_rules
  row_rules =
      let rest : List Rule = each_row row_ranges 56 l.rows ++ (step_ranges l.steps ++ timing_ranges l.timing) in
      let all = (and_parts (all_kept (range_rules l)) (all_kept (conflict_rules l)) valid).0 in
      all_right (degree_ranges l.degrees) rest (all_right (level_ranges l.levels) (degree_ranges l.degrees ++ rest) all)

  -- past the last row stands one that gives nothing, which is in range too
  pub rows_ranged : (i : ℕ) → RowRanged (get_or l.rows i no_row)
  rows_ranged = each_ranged 56 l.rows (all_left (each_row row_ranges 56 l.rows) (step_ranges l.steps ++ timing_ranges l.timing) row_rules)
