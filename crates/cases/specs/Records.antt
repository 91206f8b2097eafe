-- Records, and what a new pack under the sample sheet answers to them.
use Rattle.std.specs.Prelude.{ℕ, Bool, true, cond, List, ◌∷◌, ◌++◌, replicate}
use Rattle.sheet.specs.Encoded.{pair}
use Rattle.prescribers.specs.Usual.{usual_gives}
use Rattle.calls.specs.Kinds.{R, S, C, letter_of}
use Rattle.answers.specs.declared.answer.Answer.{Answer}
use Rattle.pack.specs.Steps.{answered}
use Rattle.pack.specs.Exact.{left}
use Rattle.cases.specs.Sample.{sample}

-- the 12 bytes of a reading: ms since the one before, mV, mA into the cell, cell and die in 1/256 °C; nothing is below zero
abbrev pub reading_bytes : (elapsed voltage current cell die : ℕ) → (charger : Bool) → List ℕ
reading_bytes elapsed voltage current cell die charger = letter_of R ∷ cond charger 1 0 ∷ pair elapsed ++ (pair voltage ++ (pair current ++ (pair cell ++ pair die)))

-- a reading of a cell at 25 °C, or at 46 °C: 500 mA from a charger that is there, the die at 25 °C
abbrev pub at25 : (elapsed voltage : ℕ) → List ℕ
at25 elapsed voltage = reading_bytes elapsed voltage 500 6400 6400 true

abbrev pub at46 : (elapsed voltage : ℕ) → List ℕ
at46 elapsed voltage = reading_bytes elapsed voltage 500 11776 6400 true

-- switch-offs: 1 holds charge off, 2 discharge, 3 both; and a clear
abbrev pub switch_offs : ℕ → List ℕ
switch_offs offs = letter_of S ∷ offs ∷ replicate 10 0

abbrev pub clear : List ℕ
clear = letter_of C ∷ replicate 11 0

-- the answer to a record by a pack that was new before the earlier ones, newest first; the usual stack prescribes
abbrev pub answer_to : List ℕ → List (List ℕ) → Answer
answer_to newest earlier = answered sample (usual_gives sample) (left sample earlier) newest
