-- What `map` makes of an array, by a closure that stays as it was.
use Rattle.std.proofs.Common.{◌≡◌, ℕ, zero, suc, ◌+◌, List, length, get_or, drop, map, sym, refl, ◌∙◌, ap, subst, arith, add-one, drop-cons}
use Rattle.std.proofs.lemmas.List.{drop_all}
use Rattle.std.specs.Array.{MapsFrom, IsMapOf}
use denote.Param.Members.{Mut, Called}

module _ {F A B : Type 0} (g : Mut F (A × Unit {0}) B) (h : A → B) (f : F) (same : (x : A) (y : B) (q : F) → Called g f (x, tt) y q → (y ≡ h x) × (q ≡ f)) where
  mapped_from : (xs : List A) (ys : List B) (i n : ℕ) (p : F) → length xs ≡ i + n → length ys ≡ i + n → p ≡ f → MapsFrom g p xs ys i n → drop i ys ≡ map h (drop i xs)
  mapped_from xs ys i zero p long also at each = rw (drop_all i xs (omega arith), drop_all i ys (omega arith)) refl
  mapped_from xs ys i (suc n) p long also at (q, x, y, here, there, call, rest) =
      let made = same x y q (subst (λ s. Called g s (x, tt) y q) at call) in
      let more : drop (suc i) ys ≡ map h (drop (suc i) xs) = subst (λ k. drop k ys ≡ map h (drop k xs)) (add-one i) (mapped_from xs ys (i + 1) n q (omega arith) (omega arith) made.1 rest) in
      let first : get_or ys i y ≡ h (get_or xs i x) = there.0 ∙ made.0 ∙ ap h (sym here.0) in
      rw (drop-cons ys i y (omega arith), drop-cons xs i x (omega arith), more, first) refl

  pub mapped : (xs : List A) (ys : List B) (n : ℕ) → length xs ≡ n → IsMapOf g f xs ys n → ys ≡ map h xs
  mapped xs ys n long m = mapped_from xs ys 0 n f (omega (arith, long)) (omega (arith, m.long)) refl m.each
