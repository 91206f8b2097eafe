use Rattle.sheet.proofs.Facts.{lengths}
use Rattle.tighter.proofs.Ordering.{never_more_call}
use Rattle.tighter.proofs.call_both.Goals as goal

pub returns : goal.returns
returns g c =
    let a = c.args.tight.now.timed.sheet in
    let b = c.args.loose.now.timed.sheet in
    record {
      tight = c.call-a.ensures;
      loose = c.call-b.ensures;
      ordered = never_more_call a.limits b.limits (lengths a.limits a.sized).rows (lengths b.limits b.sized).rows _ _ _ _ _ _ _ c.call-a.ensures.answer c.call-b.ensures.answer;
    }
