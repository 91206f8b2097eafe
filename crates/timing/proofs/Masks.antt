-- The mask of the faults, bit by bit.
use Rattle.std.proofs.Common.{◌≡◌, ℕ, zero, suc, ◌+◌, ◌*◌, ◌/◌, ◌%◌, ◌^◌, ◌<◌, ◌≤◌, Bool, true, false, cond, List, [], ◌∷◌, length, reverse, bit_or, sym, refl, ap, ◌∙◌, mul_comm, pow-suc, div-one, arith, pow_pos}
use Rattle.std.specs.List.{fold}
use Rattle.std.proofs.lemmas.List.{reverse-append}
use Rattle.std.proofs.lemmas.List.Sums.{fold-append}
use Rattle.std.proofs.lemmas.Grind.{or_after_shift}
use native.Mathlib.Nat.{zero-div, div-div-eq-div-mul}
use Rattle.std.proofs.lemmas.Nat.{div-mul-add, mod-mul-add}
use Rattle.timing.specs.Mask.{mask_of, BitsOf}

mask_lt : (bs : List Bool) (n : ℕ) → length bs ≤ n → mask_of bs < 2 ^ n
mask_lt [] n h = pow_pos n
mask_lt (b ∷ bs) zero h = absurd (omega arith)
mask_lt (b ∷ bs) (suc n) h =
    elim b as (λ b. mask_of bs * 2 + cond b 1 0 < 2 ^ suc n) [
      | true ↦ omega (arith, mask_lt bs n (omega arith), pow-suc 2 n)
      | false ↦ omega (arith, mask_lt bs n (omega arith), pow-suc 2 n)
    ]

bit_small : (b : Bool) → cond b 1 0 < 2
bit_small true = omega arith
bit_small false = omega arith

-- the word moved up by one bit, with the fault as its lowest
abbrev pub with_bit : ℕ → Bool → ℕ
with_bit word fault = bit_or (word * 2 % 65536) (cond fault 1 0)

-- from the top down
pub mask_folds : (bs : List Bool) → length bs ≤ 16 → fold with_bit 0 (reverse bs) ≡ mask_of bs
mask_folds [] h = refl
mask_folds (b ∷ bs) h =
    let small : mask_of bs < 2 ^ 15 = mask_lt bs 15 (omega arith) in
    ap (fold with_bit 0) (reverse-append (b ∷ []) bs) ∙ fold-append with_bit 0 (reverse bs) (b ∷ []) ∙ ap (λ w. with_bit w b) (mask_folds bs (omega arith)) ∙ or_after_shift (mask_of bs) 2 65536 (cond b 1 0) refl (bit_small b) (omega arith)

pub mask_bits : (bs : List Bool) → BitsOf bs (mask_of bs)
mask_bits [] k = ap (λ q. q % 2) (zero-div (2 ^ k))
mask_bits (b ∷ bs) zero = ap (λ q. q % 2) (div-one (mask_of bs * 2 + cond b 1 0)) ∙ mod-mul-add (mask_of bs) 2 (cond b 1 0) (bit_small b)
mask_bits (b ∷ bs) (suc k) =
    let m = mask_of bs in
    let n = m * 2 + cond b 1 0 in
    let e : n / 2 ^ suc k ≡ m / 2 ^ k = ap (λ p. n / p) (pow-suc 2 k ∙ mul_comm (2 ^ k) 2) ∙ sym (div-div-eq-div-mul n 2 (2 ^ k)) ∙ ap (λ q. q / 2 ^ k) (div-mul-add m 2 (cond b 1 0) (bit_small b)) in
    ap (λ q. q % 2) e ∙ mask_bits bs k
