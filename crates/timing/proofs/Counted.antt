-- All that the other proofs know of a stretch's counted time: none but these unfolds it.
use Rattle.std.proofs.Common.{◌≡◌, ◌+◌, ◌≤◌, List, [], ◌∷◌, ◌++◌, refl, arith}
use Rattle.std.specs.List.{AllZip}
use Rattle.timing.specs.declared.Observation.{Observation}
use Rattle.timing.specs.Stands.{counted}
use Rattle.timing.specs.Order.{Tighter}

pub counted_none : counted [] ≡ 0
unfolding counted
counted_none = refl

-- the newest reading adds its elapsed time
pub counted_more : (o : Observation) (older : List Observation) → counted (o ∷ older) ≡ o.elapsed + counted older
unfolding counted
counted_more o older = refl

-- a stretch that goes further back counts no less
pub counted_longer : (stretch older : List Observation) → counted stretch ≤ counted (stretch ++ older)
unfolding counted
counted_longer [] older = omega arith
counted_longer (o ∷ os) older = omega (arith, counted_longer os older)

-- and it goes by the elapsed times alone
pub counted_same : (tight loose : List Observation) → AllZip Tighter tight loose → counted tight ≡ counted loose
unfolding counted
counted_same [] [] h = refl
counted_same [] (l ∷ ls) h = absurd h
counted_same (t ∷ ts) [] h = absurd h
counted_same (t ∷ ts) (l ∷ ls) h = omega (arith, h.0.elapsed, counted_same ts ls h.1)
