-- A longer delay and no lower levels never put a lower level in force.
use Rattle.std.proofs.Common.{ℕ, ◌≤◌, List, inl, inr, arith}
use Rattle.std.proofs.lemmas.List.Elements.{length_all_zip, AllZip-get_or}
use Rattle.inforce.specs.Level.{Counts, LevelOrdered}

-- what counts under a delay counts under a longer one
counts_longer : (d e : ℕ) (times : List ℕ) (k : ℕ) → d ≤ e → Counts d times k → Counts e times k
counts_longer d e times k le (inl z) = inl z
counts_longer d e times k le (inr y) = inr (omega arith)

pub level_ordered : (d v : ℕ) → LevelOrdered d v
level_ordered d v e times ls hs w le each low high =
    let place = low.place in
    let rises = AllZip-get_or (λ l h. l ≤ h) ls hs place 0 0 each low.within in
    let reach = high.bound place (omega (arith, length_all_zip (λ l h. l ≤ h) ls hs each, low.within)) (counts_longer d e times place le low.counts) in
    omega (arith, low.reached, rises, reach)
