-- The line of an answer tells the numbers that its bytes hold.
use Rattle.std.proofs.Common.{◌≡◌, ℕ, ◌+◌, ◌*◌, ◌/◌, ◌%◌, arith, w8, to_z, of_z}
use Rattle.answers.specs.declared.numbers.AnswerNumbers.{AnswerNumbers}
use Rattle.answers.specs.Answers.{bytes_in, line_in, line_at}

-- a word is put together again from its two bytes
whole : (w : ℕ) → w % 256 + w / 256 * 256 ≡ w
whole w = omega arith

pub told : (n : AnswerNumbers) → to_z w8 (of_z w8 n.region) ≡ n.region → line_at (bytes_in n) ≡ line_in n
told n r =
    let f = whole n.faults in
    let i = whole n.current in
    let v = whole n.voltage in
    let l = whole n.level in
    cc
