-- What `all` over the numbers below a bound decides, where each answer of its closure decides the fact at that number.
use Rattle.std.proofs.Common.{◌≡◌, ℕ, ◌<◌, Bool, true, false, Decides, sym, refl, ap, subst, ◌∙◌, arith}
use Rattle.std.specs.declared.ops.Range.{Range}
use Rattle.std.specs.declared.option.Option.TheVariants.{Some}
use Rattle.std.specs.Bool.{MatchBool}
use Rattle.std.specs.Option.{IsSomeAnd, IfSome}
use Rattle.std.specs.Fn.{Called}
use Rattle.std.specs.Iterator.Runs.{SomeRun, AllItemsGive, AnyItemGives, CallKeepsClosure}
use Rattle.std.proofs.iter.Yields.{nat_range_steps}
use Rattle.std.proofs.iter.runs.Sources.{range_runs}
use Rattle.std.proofs.lemmas.Bool.{false≢true}
use Rattle.std.proofs.lemmas.Iterator.Adapters.{option_map_id}
use denote.Param.Members.{Mut}

module _ {F : Type 0} (g : Mut F (ℕ × Unit {0}) Bool) (f : F) (P : ℕ → Type 0) (n : ℕ) (keeps : CallKeepsClosure g f) (each : (k : ℕ) (r : Bool) → k < n → Called g f (k, tt) r f → Decides r (P k)) where
  pub decides_below : (s : Range ℕ) (r : Bool) → s.start ≡ 0 → s.end ≡ n → SomeRun nat_range_steps s (λ p. MatchBool r ((p.whole ≡ true) × AllItemsGive p g f true) (AnyItemGives p g f false)) → Decides r ((k : ℕ) → k < n → P k)
  decides_below s true z e h =
      let p = h.0 in
      let up = range_runs p p.seen in
      let at : (k : ℕ) → k < n → p.at k ≡ Some k = λ k l.
      sym (option_map_id (p.at k)) ∙ up.3 k (omega (arith, up.1 h.2.0, ap (λ t. t.start) h.1, ap (λ t. t.end) h.1)) ∙ ap Some (omega (arith, ap (λ t. t.start) h.1)) in
      (λ _ k l. (each k true l (subst (λ o. IfSome o (λ x. Called g f (x, tt) true f)) (at k l) (h.2.1 keeps k))).0 refl, λ _. refl)
  decides_below s false z e h =
      let p = h.0 in
      let up = range_runs p p.seen in
      let any = h.2 keeps in
      let k = any.0 in
      let at : p.at k ≡ Some k =
      sym (option_map_id (p.at k)) ∙ up.3 k any.1 ∙ ap Some (omega (arith, ap (λ t. t.start) h.1)) in
      let l : k < n = omega (arith, up.0, any.1, ap (λ t. t.start) h.1, ap (λ t. t.end) h.1) in
      (λ y. absurd (false≢true y), λ all. (each k false l (subst (λ o. IsSomeAnd o (λ x. Called g f (x, tt) false f)) at any.2)).1 (all k l))
