use Rattle.std.proofs.Common.{◌≡◌, take}
use Rattle.tighter.specs.Order.{newest_first, last_answers}
use Rattle.tighter.proofs.Running.{Fed}
use Rattle.tighter.proofs.feed_both.Given as goal

abbrev pub invariant-loop-bytes : goal.invariant-loop-bytes
invariant-loop-bytes g l = record {
  tight : Fed l.initial.tight.timed.sheet l.initial.tight.prescriber (newest_first (take l.bytes-index l.records)) l.tight;
  loose : Fed l.initial.loose.timed.sheet l.initial.loose.prescriber (newest_first (take l.bytes-index l.records)) l.loose;
  last : l.last ≡ last_answers l.initial.tight.timed.sheet.limits (g.P.Prescriber.gives l.initial.tight.prescriber) l.initial.loose.timed.sheet.limits (g.Q.Prescriber.gives l.initial.loose.prescriber) (newest_first (take l.bytes-index l.records));
}
