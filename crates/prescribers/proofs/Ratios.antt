-- The ratios of an accepted sheet are sixteenths.
use Rattle.std.proofs.Common.{◌≡◌, true}
use Rattle.sheet.specs.declared.limits.Limits.{Limits}
use Rattle.sheet.specs.Accepted.{sound, fits}
use Rattle.sheet.proofs.Facts.{ratios_small}
use Rattle.prescribers.specs.Meanings.{InSixteenths}

pub in_sixteenths : (l : Limits) → sound l ≡ true → fits l ≡ true → InSixteenths l.steps
in_sixteenths l valid sized = ratios_small l valid sized
