-- The tighter of two faults never stands later.
use Rattle.std.proofs.Common.{◌≡◌, ℕ, ◌+◌, ◌≤◌, min, Bool, true, false, cond, not, leb, List, [], ◌∷◌, ◌++◌, sym, refl, ap, ◌∙◌, subst, arith}
use Rattle.std.specs.List.{AllZip, AllByRecursion}
use Rattle.std.proofs.lemmas.List.Elements.{length_all_zip}
use Rattle.std.proofs.lemmas.Bool.{false≢true}
use Rattle.timing.specs.declared.Watch.{Watch}
use Rattle.timing.specs.declared.Observation.{Observation}
use Rattle.timing.specs.Timing.{stepped, held_after, all_stepped}
use Rattle.timing.specs.Order.{Tighter, Ahead, StandsOrdered, OrderedAfter}
use Rattle.timing.proofs.Counted.{counted_same}
use Rattle.timing.proofs.Implies.{Implies, turned, and_implies, or_implies, leb_implies}

held_le : (x y : Bool) (h k e : ℕ) → Implies x y → h ≤ k → cond x (min (h + e) 4294967295) 0 ≤ cond y (min (k + e) 4294967295) 0
held_le true true h k e p q = omega arith
held_le true false h k e p q = absurd (false≢true (p refl))
held_le false true h k e p q = omega arith
held_le false false h k e p q = omega arith

-- one reading, two watches
stepped_ahead : (d e : ℕ) (o q : Observation) (w v : Watch) → d ≤ e → Tighter o q → Ahead w v → Ahead (stepped d o w) (stepped e q v)
stepped_ahead d e o q w v le t a =
    let held : held_after q v.held ≤ held_after o w.held = rw t.elapsed (held_le q.trips o.trips v.held w.held q.elapsed t.trips a.held) in
    record {
      held = held;
      standing =
          or_implies _ _ _ _
          (and_implies q.trips (leb e (held_after q v.held)) o.trips (leb d (held_after o w.held)) t.trips (leb_implies _ _ _ _ (λ x. omega arith)))
          (and_implies v.standing (not q.releases) w.standing (not o.releases) a.standing (turned o.releases q.releases t.releases));
    }

-- and two tables
tables_ahead : (ds es : List ℕ) (os qs : List Observation) (ws vs : List Watch) → AllZip (λ d e. d ≤ e) ds es → AllZip Tighter os qs → AllZip Ahead ws vs → AllZip Ahead (all_stepped ds os ws) (all_stepped es qs vs)
tables_ahead [] [] os qs ws vs p q r = r
tables_ahead [] (e ∷ es) os qs ws vs p q r = absurd p
tables_ahead (d ∷ ds) [] os qs ws vs p q r = absurd p
tables_ahead (d ∷ ds) (e ∷ es) [] [] ws vs p q r = r
tables_ahead (d ∷ ds) (e ∷ es) [] (l ∷ ls) ws vs p q r = absurd q
tables_ahead (d ∷ ds) (e ∷ es) (o ∷ os) [] ws vs p q r = absurd q
tables_ahead (d ∷ ds) (e ∷ es) (o ∷ os) (l ∷ ls) [] [] p q r = tt
tables_ahead (d ∷ ds) (e ∷ es) (o ∷ os) (l ∷ ls) [] (v ∷ vs) p q r = absurd r
tables_ahead (d ∷ ds) (e ∷ es) (o ∷ os) (l ∷ ls) (w ∷ ws) [] p q r = absurd r
tables_ahead (d ∷ ds) (e ∷ es) (o ∷ os) (l ∷ ls) (w ∷ ws) (v ∷ vs) p q r = (stepped_ahead d e o l w v p.0 q.0 r.0, tables_ahead ds es os ls ws vs p.1 q.1 r.1)

-- a tighter history splits where the looser one does
record Split (tight front back : List Observation) : Type 0 where
  early : List Observation
  late : List Observation
  parts : tight ≡ early ++ late
  fronts : AllZip Tighter early front
  backs : AllZip Tighter late back

split : (tight front back : List Observation) → AllZip Tighter tight (front ++ back) → Split tight front back
split tight [] back h = record { early = []; late = tight; parts = refl; fronts = tt; backs = h }
split [] (f ∷ fs) back h = absurd h
split (t ∷ ts) (f ∷ fs) back h =
    let s = split ts fs back h.1 in
    record { early = t ∷ s.early; late = s.late; parts = ap (λ l. t ∷ l) s.parts; fronts = (h.0, s.fronts); backs = s.backs }

trips_kept : (tight loose : List Observation) → AllZip Tighter tight loose → AllByRecursion (λ o. o.trips ≡ true) loose → AllByRecursion (λ o. o.trips ≡ true) tight
trips_kept [] [] h a = tt
trips_kept [] (l ∷ ls) h a = absurd h
trips_kept (t ∷ ts) [] h a = absurd h
trips_kept (t ∷ ts) (l ∷ ls) h a = (h.0.trips a.0, trips_kept ts ls h.1 a.1)

unreleased : (x y : Bool) → Implies x y → y ≡ false → x ≡ false
unreleased true y h e = absurd (false≢true (sym e ∙ h refl))
unreleased false y h e = refl

unreleased_kept : (tight loose : List Observation) → AllZip Tighter tight loose → AllByRecursion (λ o. o.releases ≡ false) loose → AllByRecursion (λ o. o.releases ≡ false) tight
unreleased_kept [] [] h a = tt
unreleased_kept [] (l ∷ ls) h a = absurd h
unreleased_kept (t ∷ ts) [] h a = absurd h
unreleased_kept (t ∷ ts) (l ∷ ls) h a = (unreleased t.releases l.releases h.0.releases a.0, unreleased_kept ts ls h.1 a.1)

pub stands_ordered : (d : ℕ) (tight : List Observation) → StandsOrdered d tight
stands_ordered d tight e loose le h s =
    let first = split tight s.later (s.stretch ++ s.before) (subst (AllZip Tighter tight) s.parts h) in
    let second = split first.late s.stretch s.before first.backs in
    record {
      later = first.early;
      stretch = second.early;
      before = second.late;
      parts = first.parts ∙ ap (λ l. first.early ++ l) second.parts;
      some = omega (arith, length_all_zip Tighter second.early s.stretch second.fronts, s.some);
      tripped = trips_kept second.early s.stretch second.fronts s.tripped;
      long = omega (arith, counted_same second.early s.stretch second.fronts, s.long);
      unreleased = unreleased_kept first.early s.later first.fronts s.unreleased;
    }

pub ordered-after : (ds : List ℕ) (os : List Observation) (before after : List Watch) → after ≡ all_stepped ds os before → OrderedAfter ds os before after
ordered-after ds os before after e = record {
  tables = λ es qs behind p q r. rw e (tables_ahead ds es os qs before behind p q r);
  stands = λ history k. stands_ordered _ _;
}
