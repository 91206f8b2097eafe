-- The judgement of an image is the first refusal that the image is owed.
use Rattle.std.proofs.Common.{◌≡◌, ℕ, suc, ◌<◌, ◌≤◌, Bool, true, false, cond, ◌&&◌, T, eqb, leb, ◌⊎◌, List, [], ◌∷◌, length, get_or, take, drop, Some, None, Ok, Err, sum, Option, Result, sym, refl, ap, ◌∙◌, subst, inl, inr, le_trans, arith, leb→le}
use Rattle.std.proofs.lemmas.Bool.{cases_Bool, eqb-true, eqb-false, and_parts, and_from, eq-eqb, false≢true}
use Rattle.layout.specs.declared.limits.Limits.{Limits}
use Rattle.layout.specs.declared.rule.Rule.{Rule}
use Rattle.layout.specs.declared.refusal.Refusal.{Refusal}
use Rattle.layout.specs.declared.refusal.Refusal.TheVariants.{Length, Header, Entry, Sum, Range, Conflict}
use Rattle.layout.specs.Fields.{word, limits_of}
use Rattle.layout.specs.Rules.{first_broken, entry_rules, range_rules, each_row, conflict_rules}
use Rattle.layout.specs.Refusals.{number_of, place_of}
use Rattle.layout.specs.Decoded.{decoded, contents, summed, ranges, conflicts, headed, is_summed, next, unless, refuse}
use Rattle.layout.specs.Laws.{BrokenAt, Breaks, NoLater, FirstBroken, Judged}

-- a refusal from its number and place
rebuilt : ℕ → ℕ → Refusal
rebuilt n p = cond (eqb n 1) Length (cond (eqb n 2) Header (cond (eqb n 3) (Entry p) (cond (eqb n 4) Sum (cond (eqb n 5) (Range p) (Conflict p)))))

rebuilds : (e : Refusal) → e ≡ rebuilt (number_of e) (place_of e)
unfolding rebuilt
rebuilds Length = refl
rebuilds Header = refl
rebuilds (Entry k) = refl
rebuilds Sum = refl
rebuilds (Range p) = refl
rebuilds (Conflict p) = refl

-- two refusals, neither of which comes later, are one
same : (e f : Refusal) → NoLater e f → NoLater f e → e ≡ f
same e f h k =
    let n : number_of e ≡ number_of f = elim h [ inl a ↦ elim k [ inl b ↦ omega arith | inr b ↦ omega (arith, b.0) ] | inr a ↦ a.0 ] in
    let p : place_of e ≡ place_of f = elim h [ inl a ↦ omega (arith, n) | inr a ↦ elim k [ inl b ↦ omega (arith, n) | inr b ↦ omega (arith, a.1, b.1) ] ] in
    rebuilds e ∙ (λ i. rebuilt (n i) (p i)) ∙ sym (rebuilds f)

-- what a test says, and what the first broken place says
At : Bool → Type 0 → Type 0
At true P = P
At false P = P → ⊥

Places : List Rule → Option ℕ → Type 0
Places rs None = (p : ℕ) → BrokenAt rs p → ⊥
Places rs (Some p) = BrokenAt rs p × ((q : ℕ) → BrokenAt rs q → p ≤ q)

at_test : (b : Bool) (P : Type 0) → (b ≡ true → P) → (P → b ≡ true) → At b P
unfolding At
at_test true P f g = f refl
at_test false P f g = λ h. false≢true (g h)

at_eqb : (x y : ℕ) → At (eqb x y) (x ≡ y)
at_eqb x y = at_test (eqb x y) (x ≡ y) (eqb-true x y) (eq-eqb x y)

-- the places do not fall, from q on
abbrev ascending : ℕ → List Rule → Bool
ascending q [] = true
ascending q (r ∷ rs) = leb q r.place && ascending r.place rs

left : (a b : Bool) → T (a && b) → T a
left true b t = tt
left false b t = t

right : (a b : Bool) → T (a && b) → T b
right true b t = t
right false b t = absurd t

above : (q : ℕ) (rs : List Rule) → T (ascending q rs) → (p : ℕ) → BrokenAt rs p → q ≤ p
above q [] t p b = absurd b
above q (r ∷ rs) t p (inl b) = omega (arith, leb→le q r.place (left (leb q r.place) (ascending r.place rs) t), b.1)
above q (r ∷ rs) t p (inr b) = le_trans (leb→le q r.place (left (leb q r.place) (ascending r.place rs) t)) (above r.place rs (right (leb q r.place) (ascending r.place rs) t) p b)

-- one rule more in front, by whether it is kept
more : (b : Bool) (q : ℕ) (r : Rule) (rs : List Rule) (o : Option ℕ) → r.kept ≡ b → T (ascending q (r ∷ rs)) → Places rs o → Places (r ∷ rs) (cond b o (Some r.place))
unfolding Places
more true q r rs None e t h = λ p b. elim b [ inl k ↦ false≢true (sym k.0 ∙ e) | inr k ↦ h p k ]
more true q r rs (Some p) e t h = (inr h.0, λ s b. elim b [ inl k ↦ absurd (false≢true (sym k.0 ∙ e)) | inr k ↦ h.1 s k ])
more false q r rs o e t h = (inl (e, refl), λ s b. elim b [ inl k ↦ omega (arith, k.1) | inr k ↦ above r.place rs (right (leb q r.place) (ascending r.place rs) t) s k ])

places : (q : ℕ) (rs : List Rule) → T (ascending q rs) → Places rs (first_broken rs)
unfolding Places
places q [] t = λ p b. b
places q (r ∷ rs) t = more r.kept q r rs (first_broken rs) refl t (places r.place rs (right (leb q r.place) (ascending r.place rs) t))

-- the order of the places is one test, which antt computes
range_places : (m : List ℕ) → T (ascending 0 (range_rules (limits_of m)))
unfolding range_rules limits_of each_row
range_places m = tt

conflict_places : (m : List ℕ) → T (ascending 0 (conflict_rules (limits_of m)))
unfolding conflict_rules limits_of each_row
conflict_places m = tt

-- a result that is settled by what the image breaks
Settled : List ℕ → Result Limits Refusal → Type 0
Settled m (Ok l) = (e : Refusal) → Breaks m e → ⊥
Settled m (Err e) = FirstBroken m e

module _ (m : List ℕ) where
  -- no rule of a number below n is broken
  Clean : ℕ → Type 0
  Clean n = (f : Refusal) → Breaks m f → n ≤ number_of f

  clean : Clean 1
  unfolding Clean
  clean Length b = omega arith
  clean Header b = omega arith
  clean (Entry k) b = omega arith
  clean Sum b = omega arith
  clean (Range p) b = omega arith
  clean (Conflict p) b = omega arith

  at_number : (n : ℕ) (f : Refusal) → number_of f ≡ n → Breaks m f → Breaks m (rebuilt n (place_of f))
  at_number n f e b = subst (Breaks m) (rebuilds f ∙ ap (λ k. rebuilt k (place_of f)) e) b

  cleaner : (n : ℕ) → Clean n → ((p : ℕ) → Breaks m (rebuilt n p) → ⊥) → Clean (suc n)
  unfolding Clean
  cleaner n c none f b =
      let low = c f b in
      let ne : number_of f ≡ n → ⊥ = λ e. none (place_of f) (at_number n f e b) in
      omega arith

  first : (e : Refusal) → Clean (number_of e) → Breaks m e → ((p : ℕ) → Breaks m (rebuilt (number_of e) p) → place_of e ≤ p) → FirstBroken m e
  unfolding Clean
  first e c b least = record {
    broken = b;
    first = λ f k.
        let low = c f k in
        elim (cases (number_of e) (number_of f) low) [
          | inl l ↦ inl l
          | inr s ↦ inr (s, least (place_of f) (at_number (number_of e) f (sym s) k))
        ];
  }
    where
      cases : (a b : ℕ) → a ≤ b → (a < b) ⊎ (a ≡ b)
      cases a b l = elim (cases_Bool (eqb a b)) [ inl e ↦ inr (eqb-true a b e) | inr e ↦ inl (omega (arith, eqb-false a b e)) ]

  chain : Bool → Bool → Option ℕ → Bool → Option ℕ → Option ℕ → Result Limits Refusal
  chain a b o d q r = unless a Length (next (unless b Header (refuse {A = Unit {0}} o Entry (Ok tt))) (next (unless {A = Unit {0}} d Sum (Ok tt)) (next (refuse {A = Unit {0}} q Range (Ok tt)) (next (refuse {A = Unit {0}} r Conflict (Ok tt)) (Ok (limits_of m))))))

  walk : (a b d : Bool) (o q r : Option ℕ)
      → At a (length m ≡ 116) → At b ((get_or m 0 0 ≡ 1) × (get_or m 1 0 ≡ 5)) → Places (entry_rules (drop 2 m)) o → At d (sum (take 114 m) ≡ word m 114)
      → Places (range_rules (limits_of m)) q → Places (conflict_rules (limits_of m)) r → Settled m (chain a b o d q r)
  unfolding Settled chain At Places rebuilt Clean
  walk false b d o q r h1 h2 h3 h4 h5 h6 = first Length clean h1 (λ p k. omega arith)
  walk true false d o q r h1 h2 h3 h4 h5 h6 = first Header (cleaner 1 clean (λ p k. k h1)) h2 (λ p k. omega arith)
  walk true true d (Some x) q r h1 h2 h3 h4 h5 h6 =
      first (Entry x) (cleaner 2 (cleaner 1 clean (λ p k. k h1)) (λ p k. k h2)) h3.0 h3.1
  walk true true false None q r h1 h2 h3 h4 h5 h6 =
      first Sum (cleaner 3 (cleaner 2 (cleaner 1 clean (λ p k. k h1)) (λ p k. k h2)) h3) h4 (λ p k. omega arith)
  walk true true true None (Some x) r h1 h2 h3 h4 h5 h6 =
      first (Range x) (cleaner 4 (cleaner 3 (cleaner 2 (cleaner 1 clean (λ p k. k h1)) (λ p k. k h2)) h3) (λ p k. k h4)) h5.0 h5.1
  walk true true true None None (Some x) h1 h2 h3 h4 h5 h6 =
      first (Conflict x) (cleaner 5 (cleaner 4 (cleaner 3 (cleaner 2 (cleaner 1 clean (λ p k. k h1)) (λ p k. k h2)) h3) (λ p k. k h4)) h5) h6.0 h6.1
  walk true true true None None None h1 h2 h3 h4 h5 h6 =
      let all = cleaner 6 (cleaner 5 (cleaner 4 (cleaner 3 (cleaner 2 (cleaner 1 clean (λ p k. k h1)) (λ p k. k h2)) h3) (λ p k. k h4)) h5) h6 in
      λ e b. ⊥_of e (all e b)
    where
      ⊥_of : (e : Refusal) → 7 ≤ number_of e → ⊥
      ⊥_of Length l = omega arith
      ⊥_of Header l = omega arith
      ⊥_of (Entry k) l = omega arith
      ⊥_of Sum l = omega arith
      ⊥_of (Range p) l = omega arith
      ⊥_of (Conflict p) l = omega arith

  settled : Settled m (decoded m)
  unfolding decoded contents summed ranges conflicts chain
  settled =
      walk (eqb (length m) 116) (headed m) (is_summed m) (first_broken (entry_rules (drop 2 m))) (first_broken (range_rules (limits_of m))) (first_broken (conflict_rules (limits_of m)))
      (at_eqb (length m) 116)
      (at_test (headed m) ((get_or m 0 0 ≡ 1) × (get_or m 1 0 ≡ 5))
      (λ e. let p = and_parts (eqb (get_or m 0 0) 1) (eqb (get_or m 1 0) 5) e in (eqb-true (get_or m 0 0) 1 p.0, eqb-true (get_or m 1 0) 5 p.1))
      (λ p. and_from (eqb (get_or m 0 0) 1) (eqb (get_or m 1 0) 5) (eq-eqb (get_or m 0 0) 1 p.0) (eq-eqb (get_or m 1 0) 5 p.1)))
      (places 0 (entry_rules (drop 2 m)) tt)
      (at_eqb (sum (take 114 m)) (word m 114))
      (places 0 (range_rules (limits_of m)) (range_places m))
      (places 0 (conflict_rules (limits_of m)) (conflict_places m))

  by_outcome : (r : Result Limits Refusal) → Settled m r → Judged m r
  unfolding Settled
  by_outcome (Ok l) s = record {
    refused = λ e h. let z : ◌≡◌ {A = ℕ} 0 1 = cc in absurd (omega arith);
    owed = λ e h. absurd (s e h.broken);
    accepted = λ h. s;
    unbroken = λ h. refl;
  }
  by_outcome (Err e) s = record {
    refused = λ f h. let g : e ≡ f = cc in subst (FirstBroken m) g s;
    owed = λ f h. ap Err (same e f (s.first f h.broken) (h.first e s.broken));
    accepted = λ h. absurd (false≢true h);
    unbroken = λ h. absurd (h e s.broken);
  }

  pub judged : Judged m (decoded m)
  judged = by_outcome (decoded m) settled
