-- When one prescriber stays under another.
use Rattle.reading.specs.declared.reading.Reading.{Reading}
use Rattle.reading.specs.Ranges.{InReadingRange}
use Rattle.prescribers.specs.declared.prescription.Prescription.{Prescription}
use Rattle.prescribers.specs.Pairs.{AtMost}

-- at every reading that can be accepted f gives no more than g
abbrev pub Under : (Reading → Prescription) → (Reading → Prescription) → Type 0
Under f g = (r : Reading) → InReadingRange r → AtMost (f r) (g r)
