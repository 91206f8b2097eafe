-- An array made by a closure that changes nothing: each element is what the closure computes of its index.
use Rattle.std.proofs.Common.{◌≡◌, ℕ, zero, suc, ◌+◌, ◌<◌, ◌≤◌, List, get_or, sym, ap, ◌∙◌, subst, inl, inr, arith}
use Rattle.std.proofs.lemmas.Bool.{cases_eq}
use Rattle.std.specs.Fn.{Called}
use Rattle.std.specs.Array.{IsFromFnResultFrom}
use denote.Param.Members.{Mut}

pub from_fn_gives : {F B : Type 0} (g : Mut F (ℕ × Unit {0}) B) (h : ℕ → B) {f : F} (ys : List B) (top : ℕ) → ((i : ℕ) (y : B) (q : F) → i < top → Called g f (i, tt) y q → (q ≡ f) × (y ≡ h i)) → (i n : ℕ) → i + n ≤ top → IsFromFnResultFrom g f ys i n → (j : ℕ) (e : B) → i ≤ j → j < i + n → get_or ys j e ≡ h j
from_fn_gives g h ys top turn i zero fits each j e low high = absurd (omega arith)
from_fn_gives {F = F} g h {f} ys top turn i (suc n) fits each j e low high =
    let here = turn i each.1 each.0 (omega arith) each.3 in
    elim (cases_eq j i) [
      | inl same ↦ ap (λ k. get_or ys k e) same ∙ each.2.1 e ∙ here.1 ∙ ap h (sym same)
      | inr later ↦ from_fn_gives g h ys top turn (i + 1) n (omega arith) (subst (λ (p : F). IsFromFnResultFrom g p ys (i + 1) n) here.0 each.4) j e (omega arith) (omega arith)
    ]
