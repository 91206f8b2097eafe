-- The tables of a sheet, written out.
use Rattle.std.proofs.Common.{◌≡◌, ℕ, zero, suc, ◌+◌, List, [], ◌∷◌, length, get_or, drop, ap, ◌∙◌, arith}
use Rattle.std.proofs.lemmas.List.{drop_more, drop_all}
use Rattle.layout.specs.declared.limits.Limits.{Limits}

-- n elements from place i on, written out
abbrev pub listed : {A : Type 0} → A → ℕ → ℕ → List A → List A
listed d zero i xs = []
listed d (suc n) i xs = get_or xs i d ∷ listed d n (i + 1) xs

pub listed_is : {A : Type 0} (d : A) (n i : ℕ) (xs : List A) → i + n ≡ length xs → drop i xs ≡ listed d n i xs
listed_is d zero i xs h = drop_all i xs (omega arith)
listed_is d (suc n) i xs h = drop_more xs i d (omega arith) ∙ ap (λ ys. get_or xs i d ∷ ys) (listed_is d n (i + 1) xs (omega arith))

-- the tables have their lengths
pub record Sized (l : Limits) : Type 0 where
  pub edges : length l.degrees.edges ≡ 8
  pub rows : length l.rows ≡ 7
  pub voltages : length l.steps.voltages ≡ 4
  pub ratios : length l.steps.ratios ≡ 4
