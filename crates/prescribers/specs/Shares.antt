-- Shares of a current in sixteenths, rounded down.
use Rattle.std.specs.Prelude.{◌≡◌, ℕ, zero, suc, ◌*◌, ◌/◌, ◌≤◌, List, slice_index}
use Rattle.std.proofs.Common.{ap, le_refl, mul-le-mul, mul-le-mul_left, arith}
use Rattle.std.proofs.lemmas.Bool.{ne_eqb}
use Rattle.sheet.specs.declared.limits.Steps.{Steps}
use Rattle.prescribers.specs.Meanings.{InSixteenths, ratio_after, steps_reached, step_share}

pub share_le : (a n : ℕ) → n ≤ 16 → a * n / 16 ≤ a
share_le a n h = omega (arith, mul-le-mul_left a h)

pub share_mono : (a b m n : ℕ) → a ≤ b → m ≤ n → a * m / 16 ≤ b * n / 16
share_mono a b m n h k = omega (arith, mul-le-mul h k)

-- past the first step
pub ratio-next : (k : ℕ) (ratios : List ℕ) → ratio_after (suc k) ratios ≡ slice_index ratios k
ratio-next k ratios = rw (ne_eqb (suc k) 0 (λ e. omega arith)) (ap (λ i. slice_index ratios i) (omega arith))

ratio_small : (k : ℕ) (ratios : List ℕ) → ((i : ℕ) → slice_index ratios i ≤ 16) → ratio_after k ratios ≤ 16
ratio_small zero ratios small = le_refl 16
ratio_small (suc k) ratios small = rw (ratio-next k ratios) (small k)

pub share_small : (s : Steps) → InSixteenths s → (v : ℕ) → step_share s v ≤ 16
share_small s small v = ratio_small (steps_reached s.voltages v) s.ratios small
