-- The ages of the rows put in force the level that the readings say.
use Rattle.std.proofs.Common.{◌≡◌, ℕ, zero, suc, ◌+◌, ◌<◌, ◌≤◌, cond, ltb, ◌⊎◌, List, [], ◌∷◌, length, get_or, take, sym, refl, ◌∙◌, inl, inr, le_refl, arith}
use Rattle.std.specs.List.{AllZip, AllByRecursion}
use Rattle.std.proofs.lemmas.List.{length-map}
use Rattle.std.proofs.Math.ListN.{get_or-map}
use Rattle.std.proofs.lemmas.Bool.{cases_lt}
use Rattle.std.proofs.lemmas.Bool.Decides.{nat_tests}
use Rattle.delays.specs.declared.Timer.TheVariants.{Transition}
use Rattle.delays.proofs.Rising.{delay_bound}
use Rattle.sheet.specs.declared.limits.Limits.{Limits}
use Rattle.sheet.specs.Charging.{no_row}
use Rattle.reading.specs.declared.reading.Reading.{Reading}
use Rattle.reading.specs.Regions.{level_of}
use Rattle.inforce.specs.Ages.{ages_of, level_in_force}
use Rattle.inforce.specs.Level.{total, Counts, InForce, times_of, levels_of_marks}
use Rattle.inforce.proofs.Exact.{level_exact}
use Rattle.inforce.proofs.Order.{level_ordered}
use Rattle.pack.specs.Steps.{levels_of, transition, row_for}
use Rattle.pack.specs.History.{greatest, level_in, mark_of, marks_of}

module _ (l : Limits) where
  abbrev times : List Reading → List ℕ
  times rs = times_of (marks_of l rs)

  abbrev levels : List Reading → List ℕ
  levels rs = levels_of_marks (levels_of l) (marks_of l rs)

  own_level : (r : Reading) → get_or (levels_of l) (row_for l r) 0 ≡ level_of l r.cell
  own_level r = get_or-map (λ w. w.level) l.rows (row_for l r) no_row

  -- no reading that still counts has a greater level
  greatest_bound : (d since : ℕ) (rs : List Reading) (k : ℕ) → k < length (levels rs) → since + total (take k (times rs)) < d → get_or (levels rs) k 0 ≤ greatest l d since rs
  greatest_bound d since [] k h y = absurd (omega arith)
  greatest_bound d since (r ∷ rs) zero h y =
      grind (arith, nat_tests, own_level r)
  greatest_bound d since (r ∷ rs) (suc k) h y =
      let more = greatest_bound d (since + r.elapsed) rs k (omega arith) (omega arith) in
      omega arith

  -- and one of them has it, unless there is none
  record From (d since : ℕ) (rs : List Reading) : Type 0 where
    place : ℕ
    within : place < length (levels rs)
    young : since + total (take place (times rs)) < d
    is : greatest l d since rs ≡ get_or (levels rs) place 0

  greatest_from : (d since : ℕ) (rs : List Reading) → (greatest l d since rs ≡ 0) ⊎ From d since rs
  greatest_from d since [] = inl refl
  greatest_from d since (r ∷ rs) =
      let v = cond (ltb since d) (level_of l r.cell) 0 in
      let g = greatest l d (since + r.elapsed) rs in
      elim (cases_lt g v) [
        | inl lt ↦ inr (record { place = 0; within = omega arith; young = grind (arith, nat_tests); is = grind (arith, nat_tests, own_level r) })
        | inr ge ↦ elim (greatest_from d (since + r.elapsed) rs) [
          | inl e ↦ inl (omega arith)
          | inr f ↦ inr (record { place = suc f.place; within = omega (arith, f.within); young = omega (arith, f.young); is = omega (arith, f.is) })
        ]
      ]

  -- the level in force, by the rule over all readings
  pub level_in_lem : (r : Reading) (older : List Reading) → InForce (transition l) (times (r ∷ older)) (levels (r ∷ older)) (level_in l (r ∷ older))
  level_in_lem r older =
      let d = transition l in
      let g = greatest l d r.elapsed older in
      let bound : (k : ℕ) → k < length (levels (r ∷ older)) → Counts d (times (r ∷ older)) k → get_or (levels (r ∷ older)) k 0 ≤ level_in l (r ∷ older) =
      λ k h c. bounded k h c in
      elim (cases_lt (level_of l r.cell) g) [
        | inr le ↦ record { bound = bound; place = 0; within = omega arith; counts = inl refl; reached = omega (arith, own_level r) }
        | inl lt ↦ elim (greatest_from d r.elapsed older) [
          | inl z ↦ record { bound = bound; place = 0; within = omega arith; counts = inl refl; reached = omega (arith, own_level r) }
          | inr f ↦ record { bound = bound; place = suc f.place; within = omega (arith, f.within); counts = inr (omega (arith, f.young)); reached = omega (arith, f.is) }
        ]
      ]
    where
      bounded : (k : ℕ) → k < length (levels (r ∷ older)) → Counts (transition l) (times (r ∷ older)) k → get_or (levels (r ∷ older)) k 0 ≤ level_in l (r ∷ older)
      bounded zero h c = omega (arith, own_level r)
      bounded (suc k) h (inl e) = absurd (omega arith)
      bounded (suc k) h (inr y) = omega (arith, greatest_bound (transition l) r.elapsed older k (omega arith) (omega arith))

  same_each : (xs : List ℕ) → AllZip (λ a b. a ≤ b) xs xs
  same_each [] = tt
  same_each (x ∷ xs) = (le_refl x, same_each xs)

  rows_known : (rs : List Reading) → AllByRecursion (λ m. m.row < 7) (marks_of l rs)
  rows_known [] = tt
  rows_known (r ∷ rs) = (omega arith, rows_known rs)

  pub level_is : length l.rows ≡ 7 → (r : Reading) (older : List Reading) → level_in_force (transition l) (level_of l r.cell) (ages_of (marks_of l (r ∷ older))) (levels_of l) ≡ level_in l (r ∷ older)
  level_is seven r older =
      let d = transition l in
      let v = level_in_force d (level_of l r.cell) (ages_of (marks_of l (r ∷ older))) (levels_of l) in
      let w = level_in l (r ∷ older) in
      let a = level_exact d (level_of l r.cell) (ages_of (marks_of l (r ∷ older))) (levels_of l) (omega (arith, delay_bound Transition l.timing.delaycfg)) (length-map l.rows (λ x. x.level) ∙ seven) (mark_of l r) (marks_of l older) (rows_known (r ∷ older)) refl (sym (own_level r)) in
      let b = level_in_lem r older in
      let up = level_ordered d v d (times (r ∷ older)) (levels (r ∷ older)) (levels (r ∷ older)) w (le_refl d) (same_each (levels (r ∷ older))) a b in
      let down = level_ordered d w d (times (r ∷ older)) (levels (r ∷ older)) (levels (r ∷ older)) v (le_refl d) (same_each (levels (r ∷ older))) b a in
      omega arith
