-- The refusals of a record. Their numbers go on from those of a sheet.
use Rattle.std.specs.Prelude.{ℕ}
use Rattle.calls.specs.declared.rejection.Rejection.{Rejection}
use Rattle.calls.specs.declared.rejection.Rejection.TheVariants.{Letter, Spare, Range, Live, Length}

-- the number that the answer tells
abbrev pub number_of : Rejection → ℕ
number_of Letter = 7
number_of Spare = 8
number_of Range = 9
number_of Live = 10
number_of Length = 11
