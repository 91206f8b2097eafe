-- The watch of a fault stands exactly when the fault's history says so.
use Rattle.std.proofs.Common.{◌≡◌, ℕ, ◌+◌, ◌^◌, ◌<◌, ◌≤◌, min, Bool, true, false, cond, not, ◌&&◌, leb, List, [], ◌∷◌, ◌++◌, length, Decides, sym, refl, ap, ◌∙◌, subst, inl, inr, arith}
use Rattle.std.specs.List.{AllByRecursion}
use Rattle.std.proofs.lemmas.Bool.{and_parts, and_from, or_cases, or_left, or_right, false≢true, leb-true, le-leb, not_from_false, not-true}
use Rattle.timing.specs.declared.Observation.{Observation}
use Rattle.timing.specs.Timing.{watched}
use Rattle.timing.specs.Stands.{counted, Stands}
use Rattle.timing.proofs.Counted.{counted_none, counted_more, counted_longer}

-- the stretch that a history begins with, and what lies before it
abbrev front : List Observation → List Observation
front [] = []
front (o ∷ os) = cond o.trips (o ∷ front os) []

abbrev past : List Observation → List Observation
past [] = []
past (o ∷ os) = cond o.trips (past os) (o ∷ os)

front_past : (os : List Observation) → os ≡ front os ++ past os
front_past [] = refl
front_past (o ∷ os) =
    elim o.trips as (λ b. o ∷ os ≡ cond b (o ∷ front os) [] ++ cond b (past os) (o ∷ os)) [
      | true ↦ ap (λ l. o ∷ l) (front_past os)
      | false ↦ refl
    ]

front-trips : (os : List Observation) → AllByRecursion (λ o. o.trips ≡ true) (front os)
front-trips [] = tt
front-trips (o ∷ os) =
    let P : List Observation → Type 0 = AllByRecursion (λ o. o.trips ≡ true) in
    let at : (b : Bool) → o.trips ≡ b → P (cond b (o ∷ front os) []) = λ b e. elim b as (λ b. o.trips ≡ b → P (cond b (o ∷ front os) [])) [
      | true ↦ λ e. (e, front-trips os)
      | false ↦ λ e. tt
    ] e in
    at o.trips refl

-- a stretch that trips goes on into the front of what lies before it
front_joins : (stretch before : List Observation) → AllByRecursion (λ o. o.trips ≡ true) stretch → front (stretch ++ before) ≡ stretch ++ front before
front_joins [] before h = refl
front_joins (o ∷ os) before h = ap (λ b. cond b (o ∷ front (os ++ before)) []) h.0 ∙ ap (λ l. o ∷ l) (front_joins os before h.1)

-- what is held is the front's counted time, as far as 32 bits hold it
held_is : (d : ℕ) (os : List Observation) → (watched d os).held ≡ min (counted (front os)) 4294967295
held_is d [] = omega (arith, counted_none)
held_is d (o ∷ os) =
    let ih = held_is d os in
    elim o.trips as (λ b. cond b (min ((watched d os).held + o.elapsed) 4294967295) 0 ≡ min (counted (cond b (o ∷ front os) [])) 4294967295) [
      | true ↦ omega (arith, counted_more o (front os))
      | false ↦ omega (arith, counted_none)
    ]

to : (d : ℕ) (os : List Observation) → (watched d os).standing ≡ true → Stands d os
to d [] e = absurd (false≢true e)
to d (o ∷ os) e =
    let held = (watched d (o ∷ os)).held in
    elim (or_cases (o.trips && leb d held) ((watched d os).standing && not o.releases) e) [
      | inl p ↦
          let both = and_parts o.trips (leb d held) p in
          let t : o.trips ≡ true = both.0 in
          record {
            later = [];
            stretch = front (o ∷ os);
            before = past (o ∷ os);
            parts = front_past (o ∷ os);
            some = rw t (omega arith);
            tripped = front-trips (o ∷ os);
            long = omega (arith, leb-true d held both.1, held_is d (o ∷ os));
            unreleased = tt;
          }
      | inr q ↦
          let both = and_parts (watched d os).standing (not o.releases) q in
          let ih = to d os both.0 in
          record {
            later = o ∷ ih.later;
            stretch = ih.stretch;
            before = ih.before;
            parts = ap (λ l. o ∷ l) ih.parts;
            some = ih.some;
            tripped = ih.tripped;
            long = ih.long;
            unreleased = (not-true o.releases both.1, ih.unreleased);
          }
    ]

from : (d : ℕ) → d < 2 ^ 32 → (later stretch before : List Observation) → 1 ≤ length stretch → AllByRecursion (λ o. o.trips ≡ true) stretch → d ≤ counted stretch → AllByRecursion (λ o. o.releases ≡ false) later → (watched d (later ++ (stretch ++ before))).standing ≡ true
from d h [] [] before some tripped long un = absurd (omega arith)
from d h [] (o ∷ os) before some tripped long un =
    let held = (watched d (o ∷ (os ++ before))).held in
    let whole : counted (front ((o ∷ os) ++ before)) ≡ counted ((o ∷ os) ++ front before) = ap counted (front_joins (o ∷ os) before tripped) in
    let enough : d ≤ held = omega (arith, held_is d ((o ∷ os) ++ before), whole, counted_longer (o ∷ os) (front before)) in
    or_left (o.trips && leb d held) _ (and_from o.trips (leb d held) tripped.0 (le-leb d held enough))
from d h (l ∷ ls) stretch before some tripped long un =
    or_right _ ((watched d (ls ++ (stretch ++ before))).standing && not l.releases)
    (and_from _ (not l.releases) (from d h ls stretch before some tripped long un.1) (not_from_false l.releases un.0))

pub exactly : (d : ℕ) (history : List Observation) → d < 2 ^ 32 → Decides (watched d history).standing (Stands d history)
exactly d history h = (to d history, λ s. subst (λ l. (watched d l).standing ≡ true) (sym s.parts) (from d h s.later s.stretch s.before s.some s.tripped s.long s.unreleased))
