-- Each worked case, computed.
use Rattle.std.proofs.Common.{refl}
use Rattle.sheet.specs.Fields.{limits_of}
use Rattle.sheet.specs.Rules.{each_row, range_rules, conflict_rules}
use Rattle.sheet.specs.Decoded.{contents, summed, ranges, conflicts, decoded}
use Rattle.faults.specs.Observed.{observations, fault_delays}
use Rattle.calls.specs.Parsed.{parsed}
use Rattle.pack.specs.Steps.{reads}
use Rattle.sample.specs.Sample.{sample_image}
use Rattle.cases.specs.Cases.{WorkedCases, MoreWorkedCases}
use Rattle.cases.proofs.Order.{generous, not_back}

pub all_hold : WorkedCases sample_image
unfolding each_row range_rules conflict_rules limits_of contents summed ranges conflicts decoded parsed observations fault_delays reads
all_hold = record {
  sheet = refl;
  regions = (refl, refl, refl);
  prescribed = (refl, refl);
  waits = refl;
  stands = refl;
  releases = (refl, refl);
  transition = (refl, refl);
  watchdog = (refl, refl);
  generous = (generous, not_back);
}

pub more_hold : MoreWorkedCases
unfolding each_row range_rules conflict_rules limits_of contents summed ranges conflicts decoded parsed observations fault_delays reads
more_hold = record {
  undervoltage = (refl, refl);
  cleared = (refl, refl, refl);
  rows = (refl, refl, refl);
}
