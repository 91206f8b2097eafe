-- The table of watches: how one entry after another is moved, and the histories that a table is of.
use Rattle.std.proofs.Common.{◌≡◌, ℕ, zero, suc, ◌^◌, ◌<◌, false, List, [], ◌∷◌, ◌++◌, length, get_or, take, drop, set, Decides, sym, refl, ap, ◌∙◌, le_of_suc-le-suc, not-suc-le-zero, arith}
use Rattle.std.proofs.lemmas.Bool.Decides.{Decides-at}
use Rattle.timing.specs.declared.Watch.{Watch}
use Rattle.timing.specs.declared.Observation.{Observation}
use Rattle.timing.specs.Timing.{idle, stepped, all_stepped, all_standing}
use Rattle.timing.specs.Stands.{Stands, quiet, with_reading, TableOf, ExactAfter}
use Rattle.timing.proofs.Exact.{exactly}

-- the first i entries as they are, and the others moved
abbrev pub rest_stepped : ℕ → List ℕ → List Observation → List Watch → List Watch
rest_stepped i ds os ws = take i ws ++ all_stepped (drop i ds) (drop i os) (drop i ws)

none-stepped : (ds : List ℕ) (os : List Observation) → all_stepped ds os [] ≡ []
none-stepped [] os = refl
none-stepped (d ∷ ds) [] = refl
none-stepped (d ∷ ds) (o ∷ os) = refl

-- no length of ws is asked: past its end there is nothing to move
rest_more : (i : ℕ) (ds : List ℕ) (os : List Observation) (ws : List Watch) (e : Observation) → i < length ds → i < length os → rest_stepped (suc i) ds os (set ws i (stepped (get_or ds i 0) (get_or os i e) (get_or ws i idle))) ≡ rest_stepped i ds os ws
rest_more i [] os ws e p q = absurd (not-suc-le-zero p)
rest_more i (d ∷ ds) [] ws e p q = absurd (not-suc-le-zero q)
rest_more zero (d ∷ ds) (o ∷ os) [] e p q = none-stepped ds os
rest_more (suc i) (d ∷ ds) (o ∷ os) [] e p q = none-stepped (drop (suc i) ds) (drop (suc i) os) ∙ sym (none-stepped (drop i ds) (drop i os))
rest_more zero (d ∷ ds) (o ∷ os) (w ∷ ws) e p q = refl
rest_more (suc i) (d ∷ ds) (o ∷ os) (w ∷ ws) e p q = ap (λ l. w ∷ l) (rest_more i ds os ws e (le_of_suc-le-suc p) (le_of_suc-le-suc q))

-- the step from one entry to the next, where the entry was moved
pub rest_moved : (i : ℕ) (ds : List ℕ) (os : List Observation) (ws vs : List Watch) (e : Observation) → length ds ≡ 13 → length os ≡ 13 → i < 13 → vs ≡ set ws i (stepped (get_or ds i 0) (get_or os i e) (get_or ws i idle)) → rest_stepped (suc i) ds os vs ≡ rest_stepped i ds os ws
rest_moved i ds os ws vs e p q l moved = ap (rest_stepped (suc i) ds os) moved ∙ rest_more i ds os ws e (omega arith) (omega arith)

pub rest_none : (n : ℕ) (ds : List ℕ) (os : List Observation) (ws : List Watch) → length ds ≡ n → length os ≡ n → rest_stepped n ds os ws ≡ ws
rest_none zero [] os ws p q = refl
rest_none zero (d ∷ ds) os ws p q = absurd (omega arith)
rest_none (suc n) [] os ws p q = absurd (omega arith)
rest_none (suc n) (d ∷ ds) [] ws p q = absurd (omega arith)
rest_none (suc n) (d ∷ ds) (o ∷ os) [] p q = none-stepped (drop n ds) (drop n os)
rest_none (suc n) (d ∷ ds) (o ∷ os) (w ∷ ws) p q = ap (λ l. w ∷ l) (rest_none n ds os ws (omega arith) (omega arith))

stepped-length : (ds : List ℕ) (os : List Observation) (ws : List Watch) → length (all_stepped ds os ws) ≡ length ws
stepped-length [] os ws = refl
stepped-length (d ∷ ds) [] ws = refl
stepped-length (d ∷ ds) (o ∷ os) [] = refl
stepped-length (d ∷ ds) (o ∷ os) (w ∷ ws) = ap suc (stepped-length ds os ws)

stepped_at : (ds : List ℕ) (os : List Observation) (ws : List Watch) (k : ℕ) → k < length ds → k < length os → k < length ws → get_or (all_stepped ds os ws) k idle ≡ stepped (get_or ds k 0) (get_or os k quiet) (get_or ws k idle)
stepped_at [] os ws k p q r = absurd (omega arith)
stepped_at (d ∷ ds) [] ws k p q r = absurd (omega arith)
stepped_at (d ∷ ds) (o ∷ os) [] k p q r = absurd (omega arith)
stepped_at (d ∷ ds) (o ∷ os) (w ∷ ws) zero p q r = refl
stepped_at (d ∷ ds) (o ∷ os) (w ∷ ws) (suc k) p q r = stepped_at ds os ws k (omega arith) (omega arith) (omega arith)

-- a reading in front of each history
pub table-after : (ds : List ℕ) (os : List Observation) (ws : List Watch) (history : ℕ → List Observation) → length ds ≡ 13 → length os ≡ 13 → TableOf ds history ws → TableOf ds (with_reading os history) (all_stepped ds os ws)
table-after ds os ws history p q t = record {
  size = stepped-length ds os ws ∙ t.size;
  entry = λ k l. stepped_at ds os ws k (omega arith) (omega arith) (omega (arith, t.size)) ∙ ap (stepped (get_or ds k 0) (get_or os k quiet)) (t.entry k l);
}

-- past the end of the table no fault stands
standing_at : (ws : List Watch) (k : ℕ) → get_or (all_standing ws) k false ≡ (get_or ws k idle).standing
standing_at [] k = refl
standing_at (w ∷ ws) zero = refl
standing_at (w ∷ ws) (suc k) = standing_at ws k

-- the table of histories tells whether a fault stands
pub table_exact : (ds : List ℕ) (history : ℕ → List Observation) (ws : List Watch) → TableOf ds history ws → (k : ℕ) → k < 13 → get_or ds k 0 < 2 ^ 32 → Decides (get_or (all_standing ws) k false) (Stands (get_or ds k 0) (history k))
table_exact ds history ws t k l d = Decides-at _ _ (standing_at ws k ∙ ap (λ w. w.standing) (t.entry k l)) (exactly (get_or ds k 0) (history k) d)

pub exact_after : (ds : List ℕ) (os : List Observation) (before after : List Watch) → length ds ≡ 13 → length os ≡ 13 → ((k : ℕ) → k < 13 → get_or ds k 0 < 2 ^ 32) → after ≡ all_stepped ds os before → ExactAfter ds os before after
exact_after ds os before after p q small e =
    let table : (history : ℕ → List Observation) → TableOf ds history before → TableOf ds (with_reading os history) after = λ history t. rw e (table-after ds os before history p q t) in
    record { table = table; exact = λ history t k l. table_exact ds (with_reading os history) after (table history t) k l (small k l) }
