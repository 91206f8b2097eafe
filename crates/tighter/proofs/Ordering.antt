-- A tighter pack never does more: from what both answers say of the same accepted calls.
use Rattle.std.proofs.Common.{◌≡◌, ℕ, ◌+◌, ◌<◌, ◌≤◌, min, Bool, true, false, cond, ltb, List, [], ◌∷◌, length, get_or, Some, None, Ok, Err, Decides, Option, Result, sym, refl, ap, ◌∙◌, subst, inl, inr, arith}
use Rattle.std.specs.List.{AllZip, AllByRecursion}
use Rattle.std.proofs.lemmas.List.{get_or-map}
use Rattle.std.proofs.lemmas.List.FromFn.{get_or-range_with_len}
use Rattle.std.proofs.lemmas.Bool.{false≢true, cases_lt, lt-ltb, ltb-true}
use Rattle.delays.specs.declared.Timer.TheVariants.{Transition}
use Rattle.delays.proofs.Rising.{no_shorter}
use Rattle.sheet.specs.declared.limits.Limits.{Limits}
use Rattle.reading.specs.declared.reading.Reading.{Reading}
use Rattle.reading.specs.declared.prepared.Prepared.{Prepared}
use Rattle.reading.specs.Ranges.{InReadingRange}
use Rattle.reading.specs.Regions.{level_of}
use Rattle.order.specs.Generous.{Generous}
use Rattle.order.proofs.Degrees.{everywhere}
use Rattle.timing.specs.Order.{Tighter}
use Rattle.timing.proofs.Order.{stands_ordered}
use Rattle.faults.specs.declared.fault.Fault.{Fault}
use Rattle.faults.specs.declared.fault.Fault.TheVariants.{Undervoltage}
use Rattle.faults.specs.Faults.{bit_of, all, blocks_charge, blocks_discharge}
use Rattle.faults.specs.Observed.{fault_delay}
use Rattle.faults.specs.Order.{SameReading}
use Rattle.faults.proofs.Order.{tighter, fault_no_longer}
use Rattle.prescribers.specs.Order.{Under}
use Rattle.calls.specs.declared.call.Call.{Call}
use Rattle.calls.specs.declared.call.Call.TheVariants.{Read, Word, Limit, Switch, Clear}
use Rattle.calls.specs.declared.rejection.Rejection.{Rejection}
use Rattle.calls.specs.Laws.{Ranged, RangedResult}
use Rattle.answers.specs.declared.answer.Answer.{Answer}
use Rattle.pack.specs.declared.state.State.{State}
use Rattle.pack.specs.Steps.{Meaning, transition, answered}
use Rattle.pack.specs.History.{held_offs, host_limit, readings, noted, calls_of, greatest, level_in, prepared_after, last_of, seen_by}
use Rattle.pack.specs.Exact.{bit_at, Standing, Switched, AfterReading, Shows}
use Rattle.pack.proofs.Answering.{exact_in}
use Rattle.pack.proofs.Permitting.{accepted_ranged}
use Rattle.tighter.specs.Order.{NeverMore, answer_after, TighterCall}

-- every accepted call is in range
noted_ranged : (cs : List Call) (r : Result Call Rejection) → RangedResult r → AllByRecursion Ranged cs → AllByRecursion Ranged (noted cs r)
noted_ranged cs (Ok c) h k = (h, k)
noted_ranged cs (Err e) h k = k

calls_ranged : (records : List (List ℕ)) → AllByRecursion Ranged (calls_of records)
calls_ranged [] = tt
calls_ranged (bytes ∷ earlier) = noted_ranged (calls_of earlier) _ (accepted_ranged (held_offs (calls_of earlier)) bytes) (calls_ranged earlier)

readings_ranged : (cs : List Call) → AllByRecursion Ranged cs → AllByRecursion InReadingRange (readings cs)
readings_ranged [] h = tt
readings_ranged (Read r ∷ cs) h = (h.0, readings_ranged cs h.1)
readings_ranged (Word ∷ cs) h = readings_ranged cs h.1
readings_ranged (Limit n ∷ cs) h = readings_ranged cs h.1
readings_ranged (Switch o ∷ cs) h = readings_ranged cs h.1
readings_ranged (Clear ∷ cs) h = readings_ranged cs h.1

-- a bit below 13 is that of a fault
fault_of : (k : ℕ) → k < 13 → bit_of (get_or all k Undervoltage) ≡ k
fault_of k h = omega (arith, get_or-map bit_of all k Undervoltage 0 h, get_or-range_with_len 0 13 k 0 h)

counted : (x y : Bool) (m n : ℕ) → (x ≡ true → y ≡ true) → m ≤ n → cond x m 0 ≤ cond y n 0
counted true true m n h le = le
counted true false m n h le = absurd (false≢true (h refl))
counted false y m n h le = omega arith

module _ (a b : Limits) (g : Generous b a) where
  longer : transition a ≤ transition b
  longer = no_shorter Transition a.timing.delaycfg b.timing.delaycfg (g.settings Transition)

  -- a level of the tight sheet stays in force no longer, and is no higher
  greatest-ordered : (since : ℕ) (rs : List Reading) → AllByRecursion InReadingRange rs → greatest a (transition a) since rs ≤ greatest b (transition b) since rs
  greatest-ordered since [] h = omega arith
  greatest-ordered since (r ∷ rs) h =
      let here = counted (ltb since (transition a)) (ltb since (transition b)) (level_of a r.cell) (level_of b r.cell) (λ e. lt-ltb since (transition b) (omega (arith, longer, ltb-true since (transition a) e))) (everywhere b a g r.cell h.0.cell).level in
      let more = greatest-ordered (since + r.elapsed) rs h.1 in
      omega arith

  level_ordered : (r : Reading) (older : List Reading) → AllByRecursion InReadingRange (r ∷ older) → level_in a (r ∷ older) ≤ level_in b (r ∷ older)
  level_ordered r older h = omega (arith, (everywhere b a g r.cell h.0.cell).level, greatest-ordered r.elapsed older h.1)

  same_reading : (cs : List Call) → AllByRecursion Ranged cs → (r : Reading) → InReadingRange r → SameReading (prepared_after a cs r) (prepared_after b cs r)
  same_reading cs h r k = record { reading = refl; word = refl; level = level_ordered r (readings cs) (k, readings_ranged cs h) }

  -- each rule sees the readings since the last clear at least as tightly
  seen_ordered : (f : Fault) (cs : List Call) → AllByRecursion Ranged cs → AllZip Tighter (seen_by a cs f) (seen_by b cs f)
  seen_ordered f [] h = tt
  seen_ordered f (Read r ∷ cs) h = (tighter f a b (prepared_after a cs r) (prepared_after b cs r) g (same_reading cs h.1 r h.0), seen_ordered f cs h.1)
  seen_ordered f (Word ∷ cs) h = seen_ordered f cs h.1
  seen_ordered f (Limit n ∷ cs) h = seen_ordered f cs h.1
  seen_ordered f (Switch o ∷ cs) h = seen_ordered f cs h.1
  seen_ordered f (Clear ∷ cs) h = tt

  standing_ordered : (f : Fault) (cs : List Call) → AllByRecursion Ranged cs → Standing b cs f → Standing a cs f
  standing_ordered f cs h s = stands_ordered (fault_delay a f) (seen_by a cs f) (fault_delay b f) (seen_by b cs f) (fault_no_longer f a b g) (seen_ordered f cs h) s

  switched_ordered : (cs : List Call) → AllByRecursion Ranged cs → (blocking : Fault → Bool) (held : Bool) → Switched a cs blocking held → Switched b cs blocking held
  switched_ordered cs h blocking held s = record { unblocked = λ f k t. s.unblocked f k (standing_ordered f cs h t); unheld = s.unheld }

  -- both packs have the same newest reading
  Both : Option Prepared → Option Prepared → Type 0
  Both None None = Unit {0}
  Both None (Some q) = ⊥
  Both (Some p) None = ⊥
  Both (Some p) (Some q) = (q.reading ≡ p.reading) × InReadingRange p.reading

  both_last : (cs : List Call) → AllByRecursion Ranged cs → Both (last_of a cs) (last_of b cs)
  unfolding Both
  both_last [] h = tt
  both_last (Read r ∷ cs) h = (refl, h.0)
  both_last (Word ∷ cs) h = both_last cs h.1
  both_last (Limit n ∷ cs) h = both_last cs h.1
  both_last (Switch o ∷ cs) h = both_last cs h.1
  both_last (Clear ∷ cs) h = both_last cs h.1

  module _ (f k : Meaning) (under : Under f k) (cs : List Call) (known : AllByRecursion Ranged cs) (t l : Answer) (alike : t.refusal ≡ l.refusal) where
    on : (x y : Bool) (blocking : Fault → Bool) (held : Bool) → Decides x (Switched a cs blocking held) → Decides y (Switched b cs blocking held) → x ≡ true → y ≡ true
    on x y blocking held d e h = e.1 (switched_ordered cs known blocking held (d.0 h))

    faults_ordered : (p q : Prepared) → AfterReading a f cs p t → AfterReading b k cs q l → (n : ℕ) → bit_at l.faults n ≡ true → bit_at t.faults n ≡ true
    faults_ordered p q x y n h =
        elim (cases_lt n 13) [
          | inl lt ↦
              let w = get_or all n Undervoltage in
              let e = fault_of n lt in
              subst (λ m. bit_at t.faults m ≡ true) e ((x.faults w).1 (standing_ordered w cs known ((y.faults w).0 (subst (λ m. bit_at l.faults m ≡ true) (sym e) h))))
          | inr ge ↦ absurd (false≢true (sym (y.others n ge) ∙ h))
        ]

    after_both : (p q : Prepared) → q.reading ≡ p.reading → InReadingRange p.reading → AfterReading a f cs p t → AfterReading b k cs q l → NeverMore t l
    after_both p q same r x y =
        let charge = on t.charge l.charge blocks_charge (held_offs cs).charge x.charge y.charge in
        let le = under p.reading r in
        let given : k q.reading ≡ k p.reading = ap k same in
        record {
          refusal = alike;
          faults = faults_ordered p q x y;
          charge = charge;
          discharge = on t.discharge l.discharge blocks_discharge (held_offs cs).discharge x.discharge y.discharge;
          current = omega (arith, x.current, y.current, counted t.charge l.charge (min (f p.reading).current (host_limit cs)) (min (k q.reading).current (host_limit cs)) charge (omega (arith, le.current, ap (λ z. z.current) given)));
          voltage = omega (arith, x.voltage, y.voltage, counted t.charge l.charge (f p.reading).voltage (k q.reading).voltage charge (omega (arith, le.voltage, ap (λ z. z.voltage) given)));
        }

    shows-ordered : (o s : Option Prepared) → Both o s → Shows a f cs t o → Shows b k cs l s → NeverMore t l
    unfolding Both
    shows-ordered None None z x y = record {
      refusal = alike;
      faults = λ n h. ap (λ w. bit_at w.faults n) x ∙ (sym (ap (λ w. bit_at w.faults n) y) ∙ h);
      charge = λ h. absurd (false≢true (sym (ap (λ w. w.charge) x) ∙ h));
      discharge = λ h. absurd (false≢true (sym (ap (λ w. w.discharge) x) ∙ h));
      current = omega (arith, ap (λ w. w.current) x);
      voltage = omega (arith, ap (λ w. w.voltage) x);
    }
    shows-ordered None (Some q) z x y = absurd z
    shows-ordered (Some p) None z x y = absurd z
    shows-ordered (Some p) (Some q) z x y = after_both p q z.0 z.1 x y

pub never_more : (a b : Limits) → length a.rows ≡ 7 → length b.rows ≡ 7 → Generous b a → (f k : Meaning) → Under f k → (earlier : List (List ℕ)) (bytes : List ℕ) → NeverMore (answer_after a f earlier bytes) (answer_after b k earlier bytes)
never_more a b ra rb g f k u earlier bytes =
    let cs = calls_of (bytes ∷ earlier) in
    let known = calls_ranged (bytes ∷ earlier) in
    let x = exact_in a ra f earlier bytes in
    let y = exact_in b rb k earlier bytes in
    shows-ordered a b g f k u cs known (answer_after a f earlier bytes) (answer_after b k earlier bytes) (x.refusal ∙ sym y.refusal) (last_of a cs) (last_of b cs) (both_last a b g cs known) x.shows y.shows

pub never_more_call : (a b : Limits) → length a.rows ≡ 7 → length b.rows ≡ 7 → (f k : Meaning) (x y : State) (bytes : List ℕ) (t l : Answer) → t ≡ answered a f x bytes → l ≡ answered b k y bytes → TighterCall a f x b k y t l
never_more_call a b ra rb f k x y bytes t l e d g u earlier p q =
    let told : answer_after a f earlier bytes ≡ t = ap (λ z. answered a f z bytes) (sym p) ∙ sym e in
    let also : answer_after b k earlier bytes ≡ l = ap (λ z. answered b k z bytes) (sym q) ∙ sym d in
    subst (λ z. NeverMore z l) told (subst (NeverMore (answer_after a f earlier bytes)) also (never_more a b ra rb g f k u earlier bytes))
