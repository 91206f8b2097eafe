-- One test implies another.
use Rattle.std.proofs.Common.{◌≡◌, ℕ, ◌≤◌, Bool, true, false, not, ◌&&◌, ◌||◌, leb, refl, inl, inr}
use Rattle.std.proofs.lemmas.Bool.{and_parts, and_from, or_cases, or_left, or_right, leb-true, le-leb, false≢true}

abbrev pub Implies : Bool → Bool → Type 0
Implies x y = x ≡ true → y ≡ true

-- turned round, for what does not hold
pub turned : (x y : Bool) → Implies x y → Implies (not y) (not x)
turned x true h e = absurd (false≢true e)
turned true false h e = absurd (false≢true (h refl))
turned false false h e = refl

pub and_implies : (x y z w : Bool) → Implies x z → Implies y w → Implies (x && y) (z && w)
and_implies x y z w p q e = let h = and_parts x y e in and_from z w (p h.0) (q h.1)

pub or_implies : (x y z w : Bool) → Implies x z → Implies y w → Implies (x || y) (z || w)
or_implies x y z w p q e = elim (or_cases x y e) [ inl h ↦ or_left z w (p h) | inr h ↦ or_right z w (q h) ]

pub leb_implies : (a b c d : ℕ) → (a ≤ b → c ≤ d) → Implies (leb a b) (leb c d)
leb_implies a b c d h e = le-leb c d (h (leb-true a b e))
