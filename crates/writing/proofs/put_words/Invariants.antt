use Rattle.std.proofs.Common.{◌≡◌, ◌+◌, ◌*◌, ◌++◌, take}
use Rattle.std.specs.List.{flat_map}
use Rattle.layout.specs.Encoded.{pair}
use Rattle.writing.proofs.put_words.Given as goal

abbrev pub invariant-loop-i : goal.invariant-loop-i
invariant-loop-i l = take (l.at + 2 * l.i) l.out ≡ take l.at l.initial.out ++ flat_map pair (take l.i l.words)
