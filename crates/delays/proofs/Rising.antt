-- A table rises where one test of it, which the checker computes, comes out true; and each timer's table does.
use Rattle.std.proofs.Common.{ℕ, zero, suc, ◌<◌, ◌≤◌, Bool, true, false, ◌&&◌, T, leb, List, [], ◌∷◌, length, get_or, Decides, refl, le_trans, le_refl, le_of_suc-le-suc, arith, leb→le}
use Rattle.std.specs.List.{AllByRecursion, list_all}
use Rattle.std.proofs.lemmas.Bool.{leb-true, le-leb}
use Rattle.std.proofs.lemmas.Bool.Decides.{Decides-and, Decides-like}
use Rattle.delays.specs.declared.Timer.{Timer}
use Rattle.delays.specs.declared.Timer.TheVariants.{Undervoltage, Shutdown, Temperature, Transition, Permanent, Overcurrent, Overvoltage, Full, Watchdog}
use Rattle.delays.specs.Delays.{setting_of, table, delay_of, SettingsNoLower}

-- the entries do not fall, from x on
abbrev rises : ℕ → List ℕ → Bool
rises x [] = true
rises x (y ∷ ys) = leb x y && rises y ys

left : (a b : Bool) → T (a && b) → T a
left true b t = tt
left false b t = t

right : (a b : Bool) → T (a && b) → T b
right true b t = t
right false b t = absurd t

above : (x : ℕ) (xs : List ℕ) → T (rises x xs) → (j : ℕ) → j < length xs → x ≤ get_or xs j 0
above x [] t j h = absurd (omega arith)
above x (y ∷ ys) t zero h = leb→le x y (left (leb x y) (rises y ys) t)
above x (y ∷ ys) t (suc j) h = le_trans (leb→le x y (left (leb x y) (rises y ys) t)) (above y ys (right (leb x y) (rises y ys) t) j (le_of_suc-le-suc h))

from : (x : ℕ) (xs : List ℕ) → T (rises x xs) → (i j : ℕ) → i ≤ j → j < length (x ∷ xs) → get_or (x ∷ xs) i 0 ≤ get_or (x ∷ xs) j 0
from x xs t zero zero l h = le_refl x
from x xs t zero (suc j) l h = above x xs t j (le_of_suc-le-suc h)
from x xs t (suc i) zero l h = absurd (omega arith)
from x [] t (suc i) (suc j) l h = absurd (omega arith)
from x (y ∷ ys) t (suc i) (suc j) l h = from y ys (right (leb x y) (rises y ys) t) i j (le_of_suc-le-suc l) (le_of_suc-le-suc h)

rising : (xs : List ℕ) → T (rises 0 xs) → (i j : ℕ) → i ≤ j → j < length xs → get_or xs i 0 ≤ get_or xs j 0
rising [] t i j l h = absurd (omega arith)
rising (x ∷ xs) t i j l h = from x xs (right (leb 0 x) (rises x xs) t) i j l h

table-rises : (t : Timer) → T (rises 0 (table t))
table-rises Undervoltage = tt
table-rises Shutdown = tt
table-rises Temperature = tt
table-rises Transition = tt
table-rises Permanent = tt
table-rises Overcurrent = tt
table-rises Overvoltage = tt
table-rises Full = tt
table-rises Watchdog = tt

-- a setting is never past the end of its table
setting_fits : (t : Timer) (w : ℕ) → setting_of t w < length (table t)
setting_fits Undervoltage w = omega arith
setting_fits Shutdown w = omega arith
setting_fits Temperature w = omega arith
setting_fits Transition w = omega arith
setting_fits Permanent w = omega arith
setting_fits Overcurrent w = omega arith
setting_fits Overvoltage w = omega arith
setting_fits Full w = omega arith
setting_fits Watchdog w = omega arith

pub no_shorter : (t : Timer) (v w : ℕ) → setting_of t v ≤ setting_of t w → delay_of t v ≤ delay_of t w
no_shorter t v w h = rising (table t) (table-rises t) (setting_of t v) (setting_of t w) h (setting_fits t w)

-- one timer of each of the seven fields, which serve nine timers
abbrev pub fields : List Timer
fields = Undervoltage ∷ Temperature ∷ Permanent ∷ Overcurrent ∷ Overvoltage ∷ Full ∷ Watchdog ∷ []

fields_decide : (v w : ℕ) (ts : List Timer) → Decides (list_all (λ t. leb (setting_of t v) (setting_of t w)) ts) (AllByRecursion (λ t. setting_of t v ≤ setting_of t w) ts)
fields_decide v w [] = (λ _. tt, λ _. refl)
fields_decide v w (t ∷ ts) = Decides-and _ _ (leb-true (setting_of t v) (setting_of t w), le-leb (setting_of t v) (setting_of t w)) (fields_decide v w ts)

by_fields : (v w : ℕ) → AllByRecursion (λ t. setting_of t v ≤ setting_of t w) fields → SettingsNoLower v w
by_fields v w h Undervoltage = h.0
by_fields v w h Shutdown = h.0
by_fields v w h Temperature = h.1.0
by_fields v w h Transition = h.1.0
by_fields v w h Permanent = h.1.1.0
by_fields v w h Overcurrent = h.1.1.1.0
by_fields v w h Overvoltage = h.1.1.1.1.0
by_fields v w h Full = h.1.1.1.1.1.0
by_fields v w h Watchdog = h.1.1.1.1.1.1.0

pub settings_decide : (v w : ℕ) → Decides (list_all (λ t. leb (setting_of t v) (setting_of t w)) fields) (SettingsNoLower v w)
settings_decide v w =
    Decides-like _
    (by_fields v w)
    (λ s. (s Undervoltage, (s Temperature, (s Permanent, (s Overcurrent, (s Overvoltage, (s Full, (s Watchdog, tt))))))))
    (fields_decide v w fields)

-- no delay is longer than the longest full delay
pub delay_bound : (t : Timer) (w : ℕ) → delay_of t w ≤ 5760000
delay_bound Undervoltage w = omega (arith, rising (table Undervoltage) tt (setting_of Undervoltage w) 3 (omega arith) (omega arith))
delay_bound Shutdown w = omega (arith, rising (table Shutdown) tt (setting_of Shutdown w) 3 (omega arith) (omega arith))
delay_bound Temperature w = omega (arith, rising (table Temperature) tt (setting_of Temperature w) 3 (omega arith) (omega arith))
delay_bound Transition w = omega (arith, rising (table Transition) tt (setting_of Transition w) 3 (omega arith) (omega arith))
delay_bound Permanent w = omega (arith, rising (table Permanent) tt (setting_of Permanent w) 3 (omega arith) (omega arith))
delay_bound Overcurrent w = omega (arith, rising (table Overcurrent) tt (setting_of Overcurrent w) 7 (omega arith) (omega arith))
delay_bound Overvoltage w = omega (arith, rising (table Overvoltage) tt (setting_of Overvoltage w) 3 (omega arith) (omega arith))
delay_bound Full w = omega (arith, rising (table Full) tt (setting_of Full w) 7 (omega arith) (omega arith))
delay_bound Watchdog w = omega (arith, rising (table Watchdog) tt (setting_of Watchdog w) 3 (omega arith) (omega arith))
