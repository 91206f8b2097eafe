-- The answer of a pack is what the accepted calls say.
use Rattle.std.proofs.Common.{◌≡◌, ℕ, ◌≤◌, min, Bool, true, false, cond, not, ◌&&◌, eqb, List, [], ◌∷◌, map, length, get_or, Some, None, Decides, Option, sym, refl, ap, ◌∙◌, subst, arith}
use Rattle.std.proofs.lemmas.List.{get_or-map, get_or_past, length-map}
use Rattle.std.proofs.lemmas.Bool.{not-true, not_from_false}
use Rattle.std.proofs.lemmas.Bool.Decides.{Decides-at, Decides-like, Decides-not, Decides-and}
use Rattle.delays.proofs.Rising.{delay_bound}
use Rattle.sheet.specs.declared.limits.Limits.{Limits}
use Rattle.reading.specs.declared.prepared.Prepared.{Prepared}
use Rattle.timing.specs.Timing.{all_standing}
use Rattle.timing.specs.Stands.{quiet, Stands}
use Rattle.timing.specs.Mask.{mask_of}
use Rattle.timing.proofs.Masks.{mask_bits}
use Rattle.timing.proofs.Table.{table_exact}
use Rattle.faults.specs.declared.fault.Fault.{Fault}
use Rattle.faults.specs.declared.fault.Fault.TheVariants.{Undervoltage}
use Rattle.faults.specs.Faults.{bit_of, all, timer_of, blocks_charge, blocks_discharge}
use Rattle.faults.specs.Observed.{observation, observations, fault_delay, fault_delays}
use Rattle.faults.specs.Blocking.{blocked}
use Rattle.faults.proofs.Order.{bit_below}
use Rattle.faults.proofs.Exactly.{at_bit, exactly}
use Rattle.calls.specs.declared.call.Call.{Call}
use Rattle.calls.specs.declared.rejection.Rejection.{Rejection}
use Rattle.calls.specs.Parsed.{parsed}
use Rattle.answers.specs.declared.answer.Answer.{Answer}
use Rattle.prescribers.specs.declared.prescriber.Prescriber.{Ghosts}
use Rattle.sheet.proofs.Facts.{lengths}
use Rattle.pack.specs.declared.minder.Pack.{Pack}
use Rattle.pack.specs.declared.state.State.{State}
use Rattle.pack.specs.Called.{Called}
use Rattle.pack.proofs.Levels.{level_in_lem}
use Rattle.pack.specs.Steps.{Meaning, charges, shown_at, shown, permitted_in, refusal_in, after, outcome, answered}
use Rattle.pack.specs.History.{held_offs, calls_of, since_clear}
use Rattle.pack.specs.Exact.{bit_at, Standing, Switched, Shows, Exact, left, ExactAfter}
use Rattle.pack.proofs.Tracking.{history_of, Tracks, tracks}

-- a table of the faults, read at a fault's bit
by_bit : {X : Type 0} (g : Fault → X) (d : X) (f : Fault) → get_or (map g all) (bit_of f) d ≡ g f
by_bit g d f = get_or-map g all (bit_of f) Undervoltage d (bit_below f) ∙ ap g (at_bit f)

delay_at : (l : Limits) (f : Fault) → get_or (fault_delays l) (bit_of f) 0 ≡ fault_delay l f
unfolding fault_delays
delay_at l f = by_bit (fault_delay l) 0 f

seen_at : (l : Limits) (p : Prepared) (f : Fault) → get_or (observations l p) (bit_of f) quiet ≡ observation l p f
unfolding observations
seen_at l p f = by_bit (observation l p) quiet f

same_seen : (l : Limits) (f : Fault) (ps : List Prepared) → map (λ p. get_or (observations l p) (bit_of f) quiet) ps ≡ map (λ p. observation l p f) ps
same_seen l f [] = refl
same_seen l f (p ∷ ps) = λ i. seen_at l p f i ∷ same_seen l f ps i

bit_is : (b : Bool) → eqb (cond b 1 0) 1 ≡ b
bit_is true = refl
bit_is false = refl

bit_of_lem : (standing : List Bool) (k : ℕ) → bit_at (mask_of standing) k ≡ get_or standing k false
bit_of_lem standing k = ap (λ n. eqb n 1) (mask_bits standing k) ∙ bit_is (get_or standing k false)

module _ (l : Limits) (cs : List Call) (x : State) (t : Tracks l cs x) where
  standing : List Bool
  standing = all_standing x.watches.table

  stands : (f : Fault) → Decides (get_or standing (bit_of f) false) (Standing l cs f)
  unfolding standing
  stands f =
      let d : get_or (fault_delays l) (bit_of f) 0 ≡ fault_delay l f = delay_at l f in
      let e = table_exact (fault_delays l) (history_of l cs) x.watches.table t.table (bit_of f) (bit_below f) (omega (arith, d, delay_bound (timer_of f) l.timing.delaycfg)) in
      subst (λ h. Decides (get_or (all_standing x.watches.table) (bit_of f) false) (Stands (fault_delay l f) h)) (same_seen l f (since_clear l cs))
      (subst (λ n. Decides (get_or (all_standing x.watches.table) (bit_of f) false) (Stands n (history_of l cs (bit_of f)))) d e)

  past : (k : ℕ) → 13 ≤ k → get_or standing k false ≡ false
  unfolding standing
  past k h = get_or_past (all_standing x.watches.table) k false (omega (arith, length-map x.watches.table (λ w. w.standing), t.table.size))

  switched : (blocking : Fault → Bool) (off now : Bool) → now ≡ off → Decides (not (blocked blocking standing) && not now) (Switched l cs blocking off)
  switched blocking off now same =
      Decides-like _
      (λ p. record { unblocked = λ f b s. p.0 (record { fault = f; blocks = b; stands = (stands f).1 s }); unheld = sym same ∙ p.1 })
      (λ s. (λ h. s.unblocked h.fault h.blocks ((stands h.fault).0 h.stands), same ∙ s.unheld))
      (Decides-and _ _ (Decides-not _ (exactly blocking standing (blocked blocking standing) refl)) (not-true now, not_from_false now))

  shows : (gives : Meaning) (n : Option Rejection) (o : Option Prepared) → Shows l gives cs (shown_at gives x n o) o
  unfolding standing
  shows gives n None = refl
  shows gives n (Some p) = record {
    faults = λ f. Decides-at _ _ (bit_of_lem (all_standing x.watches.table) (bit_of f)) (stands f);
    others = λ k h. bit_of_lem (all_standing x.watches.table) k ∙ past k h;
    charge = switched blocks_charge (held_offs cs).charge x.offs.charge (ap (λ o. o.charge) t.offs);
    discharge = switched blocks_discharge (held_offs cs).discharge x.offs.discharge (ap (λ o. o.discharge) t.offs);
    current = ap (λ m. cond (charges x) (min (gives p.reading).current m) 0) t.limit;
    voltage = refl;
    region = refl;
    level = refl;
  }

-- the answer to a record in a state that tracks the accepted calls
pub exact_in : (l : Limits) → length l.rows ≡ 7 → (gives : Meaning) (earlier : List (List ℕ)) (bytes : List ℕ) → Exact l gives earlier bytes (answered l gives (left l earlier) bytes)
exact_in l seven gives earlier bytes =
    let x = left l earlier in
    let t = tracks l seven earlier in
    let y = after l x bytes in
    let u = tracks l seven (bytes ∷ earlier) in
    let n = refusal_in (outcome x.offs bytes) in
    record {
      refusal = shown_refusal gives y n y.last ∙ ap (λ o. refusal_in (permitted_in o (parsed bytes))) t.offs;
      shows = subst (λ o. Shows l gives (calls_of (bytes ∷ earlier)) (shown_at gives y n y.last) o) u.last (shows l (calls_of (bytes ∷ earlier)) y u gives n y.last);
    }
  where
    shown_refusal : (gives : Meaning) (y : State) (n : Option Rejection) (o : Option Prepared) → (shown_at gives y n o).refusal ≡ n
    shown_refusal gives y n None = refl
    shown_refusal gives y n (Some p) = refl

pub exact_after : (l : Limits) → length l.rows ≡ 7 → (gives : Meaning) (x : State) (bytes : List ℕ) (a : Answer) → a ≡ answered l gives x bytes → ExactAfter l gives x bytes a
exact_after l seven gives x bytes a e earlier h =
    subst (Exact l gives earlier bytes) (ap (λ y. answered l gives y bytes) (sym h) ∙ sym e) (exact_in l seven gives earlier bytes)

-- what a call owes, from what taking the record and showing the answer ensure
pub called : {P : Type 0} {z : Ghosts P} (old new : Pack P z) (bytes : List ℕ) (a : Answer) (e : Option Rejection) → new.timed.sheet ≡ old.timed.sheet → new.prescriber ≡ old.prescriber
    → new.state ≡ after old.timed.sheet.limits old.state bytes → e ≡ refusal_in (outcome old.state.offs bytes) → a ≡ shown (z.gives new.prescriber) new.state e → Called old bytes new a
called {z = z} old new bytes a e sheet prescriber state refusal told =
    let s = old.timed.sheet in
    let answer : a ≡ answered s.limits (z.gives old.prescriber) old.state bytes = told ∙ (λ i. shown (z.gives (prescriber i)) (state i) (refusal i)) in
    record {
      answer = answer;
      exact = exact_after s.limits (lengths s.limits s.sized).rows (z.gives old.prescriber) old.state bytes a answer;
      levels = level_in_lem s.limits;
      sheet = sheet;
      prescriber = prescriber;
      state = state;
    }
