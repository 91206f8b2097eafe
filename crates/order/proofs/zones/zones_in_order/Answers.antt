use Rattle.std.proofs.Common.{pos, ◌-ℤ◌, ◌*ℤ◌, subst, arith, rules}
use Rattle.std.proofs.lemmas.Bool.Decides.{Decides-like}
use Rattle.order.specs.Generous.{NoLowerAt}
use Rattle.order.proofs.Below.{decides_below}
use Rattle.order.proofs.Degrees.{place, placed, place_small, low, high}
use Rattle.order.proofs.zones.zones_in_order.Goals as goal

pub returns : goal.returns
returns c =
    let b = c.args.b.now.limits in
    let a = c.args.a.now.limits in
    Decides-like c.all.result
    (λ f d l h. subst (λ z. NoLowerAt b a (z *ℤ pos 256)) (placed d l) (f (place d) (place_small d h)))
    (λ f k h. f (pos k -ℤ pos 128) (low k h) (high k h))
    (decides_below _ _ (λ k. NoLowerAt b a ((pos k -ℤ pos 128) *ℤ pos 256)) 256 (λ x r f' k. search rules) (λ k r l called. search rules) _ _ (omega arith) (omega arith) c.all.ensures.runs)
