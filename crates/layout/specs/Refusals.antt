-- The number of each refusal, and the place that it names.
use Rattle.std.specs.Prelude.{ℕ}
use Rattle.layout.specs.declared.refusal.Refusal.{Refusal}
use Rattle.layout.specs.declared.refusal.Refusal.TheVariants.{Length, Header, Entry, Sum, Range, Conflict}

abbrev pub number_of : Refusal → ℕ
number_of Length = 1
number_of Header = 2
number_of (Entry k) = 3
number_of Sum = 4
number_of (Range p) = 5
number_of (Conflict p) = 6

abbrev pub place_of : Refusal → ℕ
place_of Length = 0
place_of Header = 0
place_of (Entry k) = k
place_of Sum = 0
place_of (Range p) = p
place_of (Conflict p) = p
