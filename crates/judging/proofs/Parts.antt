-- What the acceptance of a step, and of steps one after another, says.
use Rattle.std.proofs.Common.{◌≡◌, ℕ, Bool, true, false, cond, ◌&&◌, eqb, List, [], ◌∷◌, Some, None, Ok, Err, Option, Result, refl, arith}
use Rattle.std.specs.List.{AllByRecursion}
use Rattle.std.proofs.lemmas.Bool.{and_parts, eqb-true}
use Rattle.layout.specs.declared.rule.Rule.{Rule}
use Rattle.layout.specs.declared.refusal.Refusal.{Refusal}
use Rattle.layout.specs.Rules.{first_broken, is_entry}
use Rattle.layout.specs.Decoded.{next, unless, refuse}

module _ {A : Type 0} where
  never : {P : Type 0} (e : Refusal) (a : A) → Err e ≡ Ok a → P
  never e a h = let z : ◌≡◌ {A = ℕ} 0 1 = cc in absurd (omega arith)

  pub next_ok : (r : Result (Unit {0}) Refusal) (k : Result A Refusal) (a : A) → next r k ≡ Ok a → (r ≡ Ok tt) × (k ≡ Ok a)
  next_ok (Ok u) k a h = (refl, h)
  next_ok (Err e) k a h = never e a h

  pub unless_ok : (b : Bool) (e : Refusal) (k : Result A Refusal) (a : A) → unless b e k ≡ Ok a → (b ≡ true) × (k ≡ Ok a)
  unless_ok true e k a h = (refl, h)
  unless_ok false e k a h = never e a h

  pub refuse_ok : (o : Option ℕ) (f : ℕ → Refusal) (k : Result A Refusal) (a : A) → refuse o f k ≡ Ok a → (o ≡ None) × (k ≡ Ok a)
  refuse_ok (Some p) f k a h = never (f p) a h
  refuse_ok None f k a h = (refl, h)

cond-none : (b : Bool) (o : Option ℕ) (p : ℕ) → cond b o (Some p) ≡ None → (b ≡ true) × (o ≡ None)
cond-none true o p h = (refl, h)
cond-none false o p h = let z : ◌≡◌ {A = ℕ} 0 1 = cc in absurd (omega arith)

pub all_hold : (cs : List Rule) → first_broken cs ≡ None → AllByRecursion (λ c. c.kept ≡ true) cs
all_hold [] h = tt
all_hold (c ∷ cs) h = let p = cond-none c.kept (first_broken cs) c.place h in (p.0, all_hold cs p.1)

pub entry_parts : (k n o kind size offset : ℕ) → is_entry k n o kind size offset ≡ true → (k ≡ kind) × (n ≡ size) × (o ≡ offset)
entry_parts k n o kind size offset h =
    let p = and_parts (eqb k kind) (eqb n size && eqb o offset) h in
    let q = and_parts (eqb n size) (eqb o offset) p.1 in
    (eqb-true k kind p.0, eqb-true n size q.0, eqb-true o offset q.1)
