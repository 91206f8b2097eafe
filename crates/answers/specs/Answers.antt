-- The bytes of an answer, and its line.
use Rattle.std.specs.Prelude.{ℕ, ◌+◌, cond, List, ◌∷◌, ◌++◌, Option, None, Some, ℤ, decimal, slice_index}
use Rattle.std.proofs.Common.{of_z, to_z}
use Rattle.std.specs.Int.{w8}
use Rattle.std.specs.Fmt.{signed_decimal}
use Rattle.layout.specs.Encoded.{pair}
use Rattle.layout.specs.Fields.{word}
use Rattle.calls.specs.declared.rejection.Rejection.{Rejection}
use Rattle.calls.specs.Rejections.{number_of as number_of_refusal}
use Rattle.reading.specs.Regions.{reached_of, number_of}
use Rattle.answers.specs.declared.answer.Answer.{Answer}
use Rattle.answers.specs.declared.numbers.AnswerNumbers.{AnswerNumbers}

-- the switches that are on, as a number: D0 charge, D1 discharge
abbrev pub switches_in : AnswerNumbers → ℕ
switches_in n = cond n.charge 1 0 + cond n.discharge 2 0

-- refusal, switches, faults, current, voltage, region in two's complement, a zero, level
abbrev pub bytes_in : AnswerNumbers → List ℕ
bytes_in n = n.refusal ∷ switches_in n ∷ pair n.faults ++ (pair n.current ++ (pair n.voltage ++ (of_z w8 n.region ∷ 0 ∷ pair n.level)))

-- the numbers in decimal, a space between two; a negative region has a minus sign
abbrev pub line_in : AnswerNumbers → List ℕ
line_in n = decimal n.refusal ++ (32 ∷ decimal (switches_in n) ++ (32 ∷ decimal n.faults ++ (32 ∷ decimal n.current ++ (32 ∷ decimal n.voltage ++ (32 ∷ signed_decimal n.region ++ (32 ∷ decimal n.level))))))

-- the numbers that begin at bytes 0, 1, 2, 4, 6, 8 and 10 as a line: what a reader of the bytes alone would print
abbrev pub line_at : List ℕ → List ℕ
line_at b = decimal (slice_index b 0) ++ (32 ∷ decimal (slice_index b 1) ++ (32 ∷ decimal (word b 2) ++ (32 ∷ decimal (word b 4) ++ (32 ∷ decimal (word b 6) ++ (32 ∷ signed_decimal (to_z w8 (slice_index b 8)) ++ (32 ∷ decimal (word b 10)))))))

-- the number of a refusal, or 0
abbrev pub number_in : Option Rejection → ℕ
number_in None = 0
number_in (Some r) = number_of_refusal r

-- the number of the region, from -4, TooCold, to 4, TooHot
abbrev pub region_in : Answer → ℤ
region_in a = number_of (reached_of a.region)

-- the numbers of an answer
abbrev pub numbers_of : Answer → AnswerNumbers
numbers_of a = record { refusal = number_in a.refusal; charge = a.charge; discharge = a.discharge; faults = a.faults; current = a.current; voltage = a.voltage; region = region_in a; level = a.level }

-- the switches that are on: D0 charge, D1 discharge
abbrev pub switches_of : Answer → ℕ
switches_of a = switches_in (numbers_of a)

-- refusal, switches, faults, current, voltage, region in two's complement, a zero, level
abbrev pub bytes_of : Answer → List ℕ
bytes_of a = bytes_in (numbers_of a)

-- the numbers of the answer in decimal, a space between two; a negative region has a minus sign
abbrev pub line_of : Answer → List ℕ
line_of a = line_in (numbers_of a)
