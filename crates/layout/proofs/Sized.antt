-- The decoding of an image of the right size.
use Rattle.std.proofs.Common.{◌≡◌, ℕ, List, length, Ok}
use Rattle.std.proofs.lemmas.Bool.{eq-eqb}
use Rattle.layout.specs.Fields.{limits_of}
use Rattle.layout.specs.Decoded.{decoded, next, contents, summed, ranges, conflicts}

pub sized : (m : List ℕ) → length m ≡ 116 → decoded m ≡ next (contents m) (next (summed m) (next (ranges (limits_of m)) (next (conflicts (limits_of m)) (Ok (limits_of m)))))
unfolding decoded
sized m h = rw (eq-eqb (length m) 116 h)
