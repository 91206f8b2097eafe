-- What a record of any length is parsed as.
use Rattle.std.specs.Prelude.{ℕ, cond, List, length, Err, Result, ◌==◌, slice_index}
use Rattle.calls.specs.declared.call.Call.{Call}
use Rattle.calls.specs.declared.rejection.Rejection.{Rejection}
use Rattle.calls.specs.declared.rejection.Rejection.TheVariants.{Letter, Length}
use Rattle.calls.specs.Kinds.{R, W, L, S, C, letter_of, parsed_as}

-- the record as the kind of its letter, which is its first byte
abbrev pub by_letter : ℕ → List ℕ → Result Call Rejection
by_letter letter m =
    cond (letter == letter_of R) (parsed_as R m)
    (cond (letter == letter_of W) (parsed_as W m)
    (cond (letter == letter_of L) (parsed_as L m)
    (cond (letter == letter_of S) (parsed_as S m)
    (cond (letter == letter_of C) (parsed_as C m)
    (Err Letter)))))

-- the length comes first, then the letter, and the rest goes by the kind
unfoldable pub parsed : List ℕ → Result Call Rejection
parsed m = cond (length m == 12) (by_letter (slice_index m 0) m) (Err Length)
