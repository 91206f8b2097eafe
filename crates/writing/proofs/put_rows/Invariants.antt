use Rattle.std.proofs.Common.{◌≡◌, ◌+◌, ◌*◌, ◌++◌, take}
use Rattle.std.specs.List.{flat_map}
use Rattle.layout.specs.Encoded.{row_bytes}
use Rattle.writing.proofs.put_rows.Given as goal

abbrev pub invariant-loop-i : goal.invariant-loop-i
invariant-loop-i l = take (56 + 6 * l.i) l.out ≡ take 56 l.initial.out ++ flat_map row_bytes (take l.i l.rows)
