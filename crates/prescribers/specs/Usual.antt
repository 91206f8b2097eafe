-- The usual stack of a sheet, and how those of two sheets compare.
use Rattle.sheet.specs.declared.limits.Limits.{Limits}
use Rattle.sheet.specs.declared.sheet.Sheet.{Sheet}
use Rattle.sheet.specs.Charging.{precharge_below, precharge_most}
use Rattle.reading.specs.declared.reading.Reading.{Reading}
use Rattle.order.specs.Generous.{Generous}
use Rattle.prescribers.specs.declared.precharge.Precharge.{Precharge}
use Rattle.prescribers.specs.declared.prescriber.Prescriber.{Ghosts}
use Rattle.prescribers.specs.declared.prescription.Prescription.{Prescription}
use Rattle.prescribers.specs.declared.step.Step.{Step}
use Rattle.prescribers.specs.declared.zone.Zone.{Zone}
use Rattle.prescribers.specs.Order.{Under}
use Rattle.prescribers.specs.Meanings.{zone_gives, stepped, precharged}

-- what the usual stack of a sheet gives: the zone's pair, cut by the steps, then by the precharge
abbrev pub usual_gives : Limits → Reading → Prescription
usual_gives l r = precharged (precharge_below l) (precharge_most l) r (stepped l.steps r (zone_gives l r))

-- what a stack of these three gives: the `gives` of the trait, at this type
abbrev pub stack_gives : {z : Ghosts Zone} → Precharge (Step Zone z) → Reading → Prescription
stack_gives u r = precharged u.until u.most r (stepped u.below.steps r (zone_gives u.below.below.sheet.limits r))

-- what is given stays under what the usual stack of any sheet that is at least as generous gives
abbrev pub Ordered : Sheet → (Reading → Prescription) → Type 0
Ordered a f = (b : Sheet) → Generous b.limits a.limits → Under f (usual_gives b.limits)
