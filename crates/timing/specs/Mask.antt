-- Faults as the bits of a number.
use Rattle.std.specs.Prelude.{◌≡◌, ℕ, ◌+◌, ◌*◌, ◌/◌, ◌%◌, ◌^◌, Bool, false, if◌then◌else◌, List, [], ◌∷◌, slice_index_or}

-- the first fault is the lowest bit
abbrev pub mask_of : List Bool → ℕ
mask_of [] = 0
mask_of (b ∷ bs) = mask_of bs * 2 + (if b then 1 else 0)

-- bit k is set exactly when fault k stands, and no other bit is
abbrev pub BitsOf : List Bool → ℕ → Type 0
BitsOf faults n = (k : ℕ) → n / 2 ^ k % 2 ≡ (if slice_index_or faults k false then 1 else 0)
