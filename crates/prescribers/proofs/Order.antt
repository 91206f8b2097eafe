-- The usual stack of a sheet that is at least as generous never gives less.
use Rattle.std.proofs.Common.{◌≡◌, ℕ, zero, suc, ◌<◌, ◌≤◌, cond, nat_le, List, [], ◌∷◌, length, slice_index, le_trans, le_refl, arith}
use Rattle.std.proofs.lemmas.Bool.Decides.{nat_tests}
use Rattle.std.proofs.lemmas.List.Sums.{count_by-le-length, sum_by-cons}
use Rattle.sheet.specs.declared.sheet.Sheet.{Sheet}
use Rattle.sheet.specs.Charging.{precharge_below, precharge_most}
use Rattle.sheet.proofs.Facts.{lengths, ratios_small, ratios_fall}
use Rattle.reading.specs.declared.reading.Reading.{Reading}
use Rattle.order.specs.Generous.{Generous}
use Rattle.order.proofs.Degrees.{everywhere}
use Rattle.prescribers.specs.declared.prescription.Prescription.{Prescription}
use Rattle.prescribers.specs.Pairs.{AtMost}
use Rattle.prescribers.specs.Meanings.{zone_gives, steps_reached, ratio_after, step_share, stepped, precharged}
use Rattle.reading.specs.Ranges.{InReadingRange}
use Rattle.prescribers.specs.Order.{Under}
use Rattle.prescribers.specs.Usual.{usual_gives}
use Rattle.prescribers.specs.Shares.{share_mono, ratio-next}

-- a step reached at the higher voltage is reached at the lower one
one_step : (x y v : ℕ) → x ≤ y → cond (nat_le y v) 1 0 ≤ cond (nat_le x v) 1 0
one_step x y v h = grind (arith, nat_tests)

-- higher step voltages are reached no more often
fewer_steps : (xs ys : List ℕ) (v : ℕ) → length xs ≡ length ys → ((k : ℕ) → k < length xs → slice_index xs k ≤ slice_index ys k) → steps_reached ys v ≤ steps_reached xs v
fewer_steps [] [] v e h = le_refl 0
fewer_steps [] (y ∷ ys) v e h = absurd (omega arith)
fewer_steps (x ∷ xs) [] v e h = absurd (omega arith)
fewer_steps (x ∷ xs) (y ∷ ys) v e h =
    let first = one_step x y v (h 0 (omega arith)) in
    let rest = fewer_steps xs ys v (omega arith) (λ k l. h (suc k) (omega arith)) in
    simp sum_by-cons (omega arith)

-- fewer steps of higher ratios leave no less
ratio-ordered : (m n : ℕ) (xs ys : List ℕ) → n ≤ m → n ≤ 4 → ((i : ℕ) → slice_index xs i ≤ 16) → ((i j : ℕ) → i ≤ j → slice_index xs j ≤ slice_index xs i) → ((k : ℕ) → k < 4 → slice_index xs k ≤ slice_index ys k) → ratio_after m xs ≤ ratio_after n ys
ratio-ordered zero zero xs ys h few small fall up = le_refl 16
ratio-ordered (suc m) zero xs ys h few small fall up = rw (ratio-next m xs) (small m)
ratio-ordered zero (suc n) xs ys h few small fall up = absurd (omega arith)
ratio-ordered (suc m) (suc n) xs ys h few small fall up = rw (ratio-next m xs, ratio-next n ys) (le_trans (fall n m (omega arith)) (up n (omega arith)))

precharge_ordered : (p q : Prescription) (r : Reading) (m n x y : ℕ) → AtMost p q → n ≤ m → x ≤ y → AtMost (precharged m x r p) (precharged n y r q)
precharge_ordered p q r m n x y h until most =
    let c = h.current in
    record { current = grind (arith, nat_tests); voltage = h.voltage }

module _ (a b : Sheet) (g : Generous b.limits a.limits) where
  share_ordered : (v : ℕ) → step_share a.limits.steps v ≤ step_share b.limits.steps v
  share_ordered v =
      let p = a.limits.steps in
      let q = b.limits.steps in
      let la = lengths a.limits a.sized in
      let lb = lengths b.limits b.sized in
      ratio-ordered (steps_reached p.voltages v) (steps_reached q.voltages v) p.ratios q.ratios
      (fewer_steps p.voltages q.voltages v (omega (arith, la.voltages, lb.voltages)) (λ k h. g.voltages k (omega (arith, la.voltages))))
      (omega (arith, count_by-le-length (λ s. nat_le s v) q.voltages, lb.voltages))
      (ratios_small a.limits a.valid a.sized)
      (ratios_fall a.limits a.valid a.sized)
      g.ratios

  zone_ordered : (r : Reading) → InReadingRange r → AtMost (zone_gives a.limits r) (zone_gives b.limits r)
  zone_ordered r h =
      let w = everywhere b.limits a.limits g r.cell h.cell in
      record { current = w.current; voltage = w.voltage }

  step_ordered : (r : Reading) (p q : Prescription) → AtMost p q → AtMost (stepped a.limits.steps r p) (stepped b.limits.steps r q)
  step_ordered r p q h = record {
    current = share_mono p.current q.current (step_share a.limits.steps r.voltage) (step_share b.limits.steps r.voltage) h.current (share_ordered r.voltage);
    voltage = h.voltage;
  }

  pub usual_ordered : Under (usual_gives a.limits) (usual_gives b.limits)
  usual_ordered r h =
      let l = a.limits in
      let m = b.limits in
      let trip = g.trip in
      let prequal = g.prequal in
      let until : precharge_below m ≤ precharge_below l = omega arith in
      precharge_ordered (stepped l.steps r (zone_gives l r)) (stepped m.steps r (zone_gives m r)) r (precharge_below l) (precharge_below m) (precharge_most l) (precharge_most m)
      (step_ordered r (zone_gives l r) (zone_gives m r) (zone_ordered r h)) until g.precharge
