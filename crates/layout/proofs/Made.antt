-- What an array made by `array::from_fn` holds, where each call gives one value of its index.
use Rattle.std.proofs.Common.{◌≡◌, ℕ, zero, suc, ◌+◌, ◌<◌, List, map, get_or, subst, refl, ◌∙◌, arith}
use Rattle.std.specs.Fn.{Mut, Called}
use Rattle.std.specs.Array.{IsFromFnResult, IsFromFnResultFrom}
use Rattle.std.specs.List.{range_with_len}
use Rattle.std.proofs.lemmas.List.FromFn.{fill_by_all}

module _ {F B : Type 0} (g : Mut F (ℕ × Unit {0}) B) (f : F) (value : ℕ → B) (calls : (i : ℕ) (y : B) (q : F) → Called g f (i, tt) y q → (q ≡ f) × (y ≡ value i)) where
  each_value : (ys : List B) (d : B) (n i : ℕ) (p : F) → p ≡ f → IsFromFnResultFrom g p ys i n → (k j : ℕ) → i + k ≡ j → k < n → get_or ys j d ≡ value j
  each_value ys d zero i p e made k j s h = absurd (omega arith)
  each_value ys d (suc n) i p e made zero j s h =
      let call = calls i made.1 made.0 (subst (λ x. Called g x (i, tt) made.1 made.0) e made.3) in
      let here : i ≡ j = omega arith in
      subst (λ x. get_or ys x d ≡ value x) here (made.2.1 d ∙ call.1)
  each_value ys d (suc n) i p e made (suc k) j s h =
      let call = calls i made.1 made.0 (subst (λ x. Called g x (i, tt) made.1 made.0) e made.3) in
      each_value ys d n (i + 1) made.0 call.0 made.4 k j (omega arith) (omega arith)

  pub made_of : (ys : List B) (n : ℕ) (d : B) → IsFromFnResult g f ys n → ys ≡ map value (range_with_len 0 n)
  made_of ys n d made = fill_by_all value ys n d made.long (λ k h. each_value ys d n 0 f refl made.each k k (omega arith) h)
