-- What a fault's rule sees under a sheet is no looser than under a sheet at least as generous.
use Rattle.std.proofs.Common.{◌≡◌, ◌∙◌, Bool, ℕ, ◌<◌, ◌≤◌, not, ◌&&◌, ltb, leb, List, [], ◌∷◌, map, ℤ, pos, ◌+ℤ◌, ◌-ℤ◌, neg_ℤ, ◌≤ℤ◌, sym, ap, arith}
use Rattle.std.specs.Prelude.{int_le, int_lt}
use Rattle.std.specs.List.{AllZip}
use Rattle.std.proofs.lemmas.Int.{ints}
use Rattle.std.proofs.lemmas.Bool.{eqb-true, eq-eqb}
use Rattle.delays.proofs.Rising.{no_shorter}
use Rattle.sheet.specs.declared.limits.Limits.{Limits}
use Rattle.reading.specs.declared.prepared.Prepared.{Prepared}
use Rattle.order.specs.Generous.{Generous}
use Rattle.timing.specs.Order.{Tighter}
use Rattle.faults.specs.declared.fault.Fault.{Fault}
use Rattle.faults.specs.declared.fault.Fault.TheVariants.{Undervoltage, Shutdown, Overvoltage, OvercurrentCharge, OvercurrentDischarge, TooColdCharge, TooHotCharge, TooHotDischarge, DieHot, Full, Watchdog, PermanentHot, PermanentOvervoltage}
use Rattle.faults.specs.Faults.{bit_of, all, timer_of}
use Rattle.faults.specs.Rules.{fine, margin, trips, releases, is_enabled}
use Rattle.faults.specs.Observed.{observation, observations, fault_delay, fault_delays}
use Rattle.faults.specs.Order.{SameReading, AllTighter, NoDelayLonger}
use Rattle.timing.proofs.Implies.{Implies, and_implies, leb_implies}

-- a test that stays the same
same_implies : {x y : Bool} → x ≡ y → Implies x y
same_implies e h = sym e ∙ h

volts : (p q : Prepared) → SameReading p q → q.reading.voltage ≡ p.reading.voltage
volts p q s = ap (λ r. r.voltage) s.reading

amps : (p q : Prepared) → SameReading p q → q.reading.current ≡ p.reading.current
amps p q s = ap (λ r. r.current) s.reading

cells : (p q : Prepared) → SameReading p q → q.reading.cell ≡ p.reading.cell
cells p q s = ap (λ r. r.cell) s.reading

dies : (p q : Prepared) → SameReading p q → q.reading.die ≡ p.reading.die
dies p q s = ap (λ r. r.die) s.reading

chargers : (p q : Prepared) → SameReading p q → q.reading.charger ≡ p.reading.charger
chargers p q s = ap (λ r. r.charger) s.reading

-- a temperature reaches a lower degree sooner, and is below a higher one sooner
hot_sooner : {d e t u : ℤ} → d ≤ℤ e → u ≡ t → Implies (int_le (fine e) u) (int_le (fine d) t)
hot_sooner le same h = grind (arith, ints)

cold_sooner : {d e t u : ℤ} → e ≤ℤ d → u ≡ t → Implies (int_lt u (fine e)) (int_lt t (fine d))
cold_sooner le same h = grind (arith, ints)

-- and is back no sooner if the hysteresis is no smaller
cool_later : {d e t u : ℤ} {m n : ℕ} → d ≤ℤ e → n ≤ m → u ≡ t → Implies (int_lt t (fine d -ℤ margin m)) (int_lt u (fine e -ℤ margin n))
cool_later le less same h = grind (arith, ints)

warm_later : {d e t u : ℤ} {m n : ℕ} → e ≤ℤ d → n ≤ m → u ≡ t → Implies (int_le (fine d +ℤ margin m) t) (int_le (fine e +ℤ margin n) u)
warm_later le less same h = grind (arith, ints)

-- a current is past a lower limit sooner, either way
charges_sooner : {m n : ℕ} {i j : ℤ} → m ≤ n → j ≡ i → Implies (int_lt (pos n) j) (int_lt (pos m) i)
charges_sooner le same h = grind (arith, ints)

discharges_sooner : {m n : ℕ} {i j : ℤ} → m ≤ n → j ≡ i → Implies (int_lt j (neg_ℤ (pos n))) (int_lt i (neg_ℤ (pos m)))
discharges_sooner le same h = grind (arith, ints)

-- a charge current has tapered off to a higher limit sooner
tapers_sooner : {m n : ℕ} {i j : ℤ} → n ≤ m → j ≡ i → Implies (int_le (pos 0) j && int_le j (pos n)) (int_le (pos 0) i && int_le i (pos m))
tapers_sooner le same h = grind (arith, ints)

-- whatever trips the looser rule trips the tighter one
trips_tighter : (f : Fault) (a b : Limits) (p q : Prepared) → Generous b a → SameReading p q → Implies (trips f b q) (trips f a p)
trips_tighter Undervoltage a b p q g s = leb_implies _ _ _ _ (λ h. omega (arith, g.trip, volts p q s))
trips_tighter Shutdown a b p q g s =
    let low : Implies (ltb q.reading.voltage b.levels.shutdown) (ltb p.reading.voltage a.levels.shutdown) = leb_implies _ _ _ _ (λ h. omega (arith, g.shutdown, volts p q s)) in
    and_implies _ _ _ _ low (same_implies (ap not (chargers p q s)))
trips_tighter Overvoltage a b p q g s = leb_implies _ _ _ _ (λ h. omega (arith, s.level, volts p q s))
trips_tighter OvercurrentCharge a b p q g s = charges_sooner g.charging (amps p q s)
trips_tighter OvercurrentDischarge a b p q g s = discharges_sooner g.discharging (amps p q s)
trips_tighter TooColdCharge a b p q g s = cold_sooner g.coldest (cells p q s)
trips_tighter TooHotCharge a b p q g s = hot_sooner g.hottest (cells p q s)
trips_tighter TooHotDischarge a b p q g s = hot_sooner g.hot (cells p q s)
trips_tighter DieHot a b p q g s = hot_sooner g.die (dies p q s)
trips_tighter Full a b p q g s =
    let high : Implies (leb b.levels.full q.reading.voltage) (leb a.levels.full p.reading.voltage) = leb_implies _ _ _ _ (λ h. omega (arith, g.full, volts p q s)) in
    and_implies _ _ _ _ high (tapers_sooner g.fullcurrent (amps p q s))
trips_tighter Watchdog a b p q g s = same_implies (ap not s.word)
trips_tighter PermanentHot a b p q g s = hot_sooner g.permhot (cells p q s)
trips_tighter PermanentOvervoltage a b p q g s = leb_implies _ _ _ _ (λ h. omega (arith, g.permanent, volts p q s))

-- whatever releases the tighter rule releases the looser one
releases_looser : (f : Fault) (a b : Limits) (p q : Prepared) → Generous b a → SameReading p q → Implies (releases f a p) (releases f b q)
releases_looser Undervoltage a b p q g s = leb_implies _ _ _ _ (λ h. omega (arith, g.release, volts p q s))
releases_looser Shutdown a b p q g s = same_implies (sym (chargers p q s))
releases_looser Overvoltage a b p q g s = leb_implies _ _ _ _ (λ h. omega (arith, s.level, g.overdrop, volts p q s))
releases_looser OvercurrentCharge a b p q g s = and_implies _ _ _ _ (same_implies (sym (ap not (chargers p q s)))) (same_implies (sym (ap (λ i. int_le i (pos 0)) (amps p q s))))
releases_looser OvercurrentDischarge a b p q g s = and_implies _ _ _ _ (same_implies (sym (chargers p q s))) (same_implies (sym (ap (int_le (pos 0)) (amps p q s))))
releases_looser TooColdCharge a b p q g s = warm_later g.coldest g.hysteresis (cells p q s)
releases_looser TooHotCharge a b p q g s = cool_later g.hottest g.hysteresis (cells p q s)
releases_looser TooHotDischarge a b p q g s = cool_later g.hot g.hysteresis (cells p q s)
releases_looser DieHot a b p q g s = cool_later g.die g.hysteresis (dies p q s)
releases_looser Full a b p q g s = leb_implies _ _ _ _ (λ h. omega (arith, g.full, g.fulldrop, volts p q s))
releases_looser Watchdog a b p q g s = same_implies (sym s.word)
releases_looser PermanentHot a b p q g s = λ e. e
releases_looser PermanentOvervoltage a b p q g s = λ e. e

pub bit_below : (f : Fault) → bit_of f < 13
bit_below f = grind arith

enabled_tighter : (f : Fault) (a b : Limits) → Generous b a → Implies (is_enabled f b) (is_enabled f a)
enabled_tighter f a b g e = eq-eqb _ 1 (g.enabled (bit_of f) (bit_below f) (eqb-true _ 1 e))

pub tighter : (f : Fault) (a b : Limits) (p q : Prepared) → Generous b a → SameReading p q → Tighter (observation a p f) (observation b q f)
tighter f a b p q g s = record {
  elapsed = sym (ap (λ r. r.elapsed) s.reading);
  trips = and_implies (is_enabled f b) (trips f b q) (is_enabled f a) (trips f a p) (enabled_tighter f a b g) (trips_tighter f a b p q g s);
  releases = releases_looser f a b p q g s;
}

each_map : {X Y : Type 0} (R : Y → Y → Type 0) (f g : X → Y) → ((x : X) → R (f x) (g x)) → (xs : List X) → AllZip R (map f xs) (map g xs)
each_map R f g h [] = tt
each_map R f g h (x ∷ xs) = (h x, each_map R f g h xs)

pub all_tighter : (a : Limits) (p : Prepared) → AllTighter a p (observations a p)
unfolding observations
all_tighter a p b q g s = each_map Tighter (observation a p) (observation b q) (λ f. tighter f a b p q g s) all

pub fault_no_longer : (f : Fault) (a b : Limits) → Generous b a → fault_delay a f ≤ fault_delay b f
fault_no_longer f a b g = no_shorter (timer_of f) a.timing.delaycfg b.timing.delaycfg (g.settings (timer_of f))

pub no_delay_longer : (a : Limits) → NoDelayLonger a (fault_delays a)
unfolding fault_delays
no_delay_longer a b g = each_map (λ d e. d ≤ e) (fault_delay a) (fault_delay b) (λ f. fault_no_longer f a b g) all
