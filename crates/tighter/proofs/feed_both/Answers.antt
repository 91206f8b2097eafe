use Rattle.std.proofs.Common.{◌≡◌, ◌+◌, ◌∷◌, get_or, take, sym, subst, arith}
use Rattle.std.proofs.lemmas.List.{take_all}
use Rattle.sheet.proofs.Facts.{lengths}
use Rattle.pack.specs.Steps.{Meaning}
use Rattle.tighter.specs.Order.{newest_first, last_answers}
use Rattle.tighter.proofs.Ordering.{never_more}
use Rattle.tighter.proofs.Running.{Fed, nothing, newest_more, fed_more, fed_answer, both_more}
use Rattle.tighter.proofs.feed_both.Goals as goal

pub loop-bytes-preserved : goal.loop-bytes-preserved
loop-bytes-preserved g c =
    let inv = c.loop-bytes.invariant in
    let xs = c.args.records.now in
    let i = c.loop-bytes.bytes-index in
    let rest = newest_first (take i xs) in
    let bytes = (get_or xs i nothing).now in
    let e : bytes ∷ rest ≡ newest_first (take (i + 1) xs) = sym (newest_more xs i nothing c.loop-bytes-test.true) in
    let s = c.args.tight.now.timed.sheet in
    let t = c.args.loose.now.timed.sheet in
    let f : Meaning = g.P.Prescriber.gives c.args.tight.now.prescriber in
    let k : Meaning = g.Q.Prescriber.gives c.args.loose.now.prescriber in
    record {
      tight = subst (λ rs. Fed s c.args.tight.now.prescriber rs c.call_both.new.tight) e (fed_more _ _ _ _ _ _ _ inv.tight c.call_both.ensures.tight);
      loose = subst (λ rs. Fed t c.args.loose.now.prescriber rs c.call_both.new.loose) e (fed_more _ _ _ _ _ _ _ inv.loose c.call_both.ensures.loose);
      last = both_more s.limits f t.limits k _ bytes rest _ (fed_answer _ _ _ _ _ _ _ inv.tight c.call_both.ensures.tight) (fed_answer _ _ _ _ _ _ _ inv.loose c.call_both.ensures.loose) e;
    }

pub returns : goal.returns
returns g c =
    let s = c.args.tight.now.timed.sheet in
    let t = c.args.loose.now.timed.sheet in
    let f : Meaning = g.P.Prescriber.gives c.args.tight.now.prescriber in
    let k : Meaning = g.Q.Prescriber.gives c.args.loose.now.prescriber in
    record {
      last = subst (λ rs. c.loop-bytes.last ≡ last_answers s.limits f t.limits k (newest_first rs)) (take_all c.loop-bytes.bytes-index c.args.records.now (omega arith)) c.loop-bytes.invariant.last;
      ordered = λ gen under later bytes earlier split. never_more s.limits t.limits (lengths s.limits s.sized).rows (lengths t.limits t.sized).rows gen f k under earlier bytes;
    }
