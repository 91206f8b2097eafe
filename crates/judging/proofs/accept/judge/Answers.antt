use Rattle.std.proofs.Common.{◌≡◌, true, sym, subst}
use Rattle.layout.specs.Accepted.{sound, fits}
use Rattle.layout.specs.Decoded.{decoded}
use Rattle.layout.specs.Laws.{Bytes, Judged, WritesBack, OneImage}
use Rattle.judging.proofs.RoundTrip.{writes_back, one_image}
use Rattle.judging.proofs.Judging.{judged}
use Rattle.judging.proofs.Sound.{sound_accepted, fits_accepted, when_made}
use Rattle.judging.proofs.accept.judge.Goals as goal

pub returns : goal.returns
returns c =
    let m = c.args.image.now in
    let b : Bytes m = λ i. (c.type_inv.image i).fits in
    let r = c.check.result in
    let e : decoded m ≡ r = sym c.check.ensures in
    record {
      value = c.check.ensures;
      judged = subst (Judged m) e (judged m);
      back = subst (WritesBack m) e (writes_back m b);
      only = subst (OneImage m) e (one_image m b);
      valid = when_made (λ l. sound l ≡ true) r (λ l h. sound_accepted m l (cc));
      sized = when_made (λ l. fits l ≡ true) r (λ l h. fits_accepted m b l (cc));
    }
