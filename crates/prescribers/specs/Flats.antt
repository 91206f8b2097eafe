-- The flat prescriber, and the refusal to make one.
use Rattle.std.specs.Prelude.{ℕ, cond, ◌&&◌, Ok, Err, Result, nat_le}
use Rattle.reading.specs.declared.reading.Reading.{Reading}
use Rattle.prescribers.specs.declared.flat.Flat.{Flat}
use Rattle.prescribers.specs.declared.out_of_range.OutOfRange.{OutOfRange}
use Rattle.prescribers.specs.declared.prescription.Prescription.{Prescription}

-- one pair at every reading
abbrev pub flat_gives : Prescription → Reading → Prescription
flat_gives p r = p

-- the pair of a flat prescriber, refused where it is out of range
abbrev pub flat_of : ℕ → ℕ → Result Prescription OutOfRange
flat_of c v = cond (nat_le c 20000 && nat_le v 5000) (Ok (record { current = c; voltage = v })) (Err (record {}))

-- what was made, without its invariant
abbrev pub pair_in : Result Flat OutOfRange → Result Prescription OutOfRange
pair_in (Ok f) = Ok f.pair
pair_in (Err e) = Err e

-- the refusal's number
abbrev pub number_of : OutOfRange → ℕ
number_of e = 9
