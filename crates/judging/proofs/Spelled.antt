-- What an image's fields write back: the bytes that they were read from.
use Rattle.std.proofs.Common.{◌≡◌, ℕ, zero, suc, ◌+◌, ◌*◌, ◌/◌, ◌%◌, ◌<◌, ◌≤◌, List, ◌∷◌, length, get_or, take, drop, sym, refl, ap, ◌∙◌, arith, w8}
use Rattle.std.specs.List.{flat_map}
use Rattle.std.proofs.lemmas.List.{drop_more}
use Rattle.std.proofs.lemmas.Int.{of_z-to_z}
use Rattle.layout.specs.Fields.{levels_of, degrees_of, steps_of, timing_of, limits_of}
use Rattle.layout.proofs.Listed.{listed}
use Rattle.layout.specs.Encoded.{level_bytes, degree_bytes, row_bytes, step_bytes, timing_bytes}

pub spelled_is : (n i : ℕ) (m : List ℕ) → i + n ≤ length m → listed 0 n i m ≡ take n (drop i m)
spelled_is zero i m h = refl
spelled_is (suc n) i m h =
    ap (λ xs. get_or m i 0 ∷ xs) (spelled_is n (i + 1) m (omega arith)) ∙ sym (ap (take (suc n)) (drop_more m i 0 (omega arith)))

pub low : (a b : ℕ) → a < 256 → (a + b * 256) % 256 ≡ a
low a b h = omega arith

pub high : (a b : ℕ) → a < 256 → (a + b * 256) / 256 ≡ b
high a b h = omega arith

module _ (m : List ℕ) (bytes : (i : ℕ) → get_or m i 0 < 256) where
  pub levels_back : level_bytes (levels_of m) ≡ listed 0 22 22 m
  levels_back = simp (low, high)

  pub degrees_back : degree_bytes (degrees_of m) ≡ listed 0 12 44 m
  degrees_back = simp (of_z-to_z w8)

  pub rows_back : flat_map row_bytes (limits_of m).rows ≡ listed 0 42 56 m
  unfolding limits_of
  rows_back = simp (low, high)

  pub steps_back : step_bytes (steps_of m) ≡ listed 0 12 98 m
  steps_back = simp (low, high)

  pub delays_back : timing_bytes (timing_of m) ≡ listed 0 4 110 m
  delays_back = simp (low, high)
