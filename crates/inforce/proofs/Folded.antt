-- The level that the ages put in force, as a fold over the rows.
use Rattle.std.proofs.Common.{◌≡◌, ℕ, max, Bool, true, false, cond, ltb, List, [], ◌∷◌, refl, ap, ◌∙◌, arith}
use Rattle.std.specs.List.{fold, zip}
use Rattle.inforce.specs.Ages.{raised_by, level_in_force}

-- a row that is not young counts as level 0
abbrev pub raised : ℕ → ℕ → ℕ × ℕ → ℕ
raised delay best row = max best (cond (ltb row.0 delay) row.1 0)

raised_is : (b : Bool) (best l : ℕ) → max best (cond b l 0) ≡ raised_by b l best
raised_is true best l = refl
raised_is false best l = omega arith

pub level_folded : (d own : ℕ) (ts ls : List ℕ) → fold (raised d) own (zip ts ls) ≡ level_in_force d own ts ls
level_folded d own [] ls = refl
level_folded d own (t ∷ ts) [] = refl
level_folded d own (t ∷ ts) (l ∷ ls) = ap (λ best. fold (raised d) best (zip ts ls)) (raised_is (ltb t d) own l) ∙ level_folded d (raised_by (ltb t d) l own) ts ls
