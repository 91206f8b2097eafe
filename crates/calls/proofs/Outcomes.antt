-- What holds of each outcome holds of what a record is parsed as.
use Rattle.std.proofs.Common.{◌≡◌, ℕ, ◌-◌, ◌^◌, true, false, cond, nat_eq, List, length, slice_index, Ok, Err, Result, sym, arith}
use Rattle.std.proofs.lemmas.Bool.Decides.{nat_tests}
use Rattle.std.proofs.lemmas.Bool.{eqb-true, eqb-false, false≢true, cond_both}
use Rattle.calls.specs.declared.call.Call.{Call}
use Rattle.calls.specs.declared.rejection.Rejection.{Rejection}
use Rattle.calls.specs.declared.rejection.Rejection.TheVariants.{Letter, Spare, Range, Length}
use Rattle.calls.specs.Fields.{spare_set}
use Rattle.calls.specs.Kinds.{Kind, R, W, L, S, C, letter_of, flags_of, spare_from, range_of, call_of, parsed_as}
use Rattle.calls.specs.Laws.{Begins, SpareSet, IsInRange}
use Rattle.calls.specs.Parsed.{by_letter, parsed}
use Rattle.calls.proofs.Spares.{spare_set_lem, nothing_spare}

module _ (m : List ℕ) where
  in_range_lem : (k : Kind) → range_of k m ≡ true → IsInRange k m
  in_range_lem R h = (grind (arith, nat_tests), grind (arith, nat_tests), grind (arith, nat_tests))
  in_range_lem W h = tt
  in_range_lem L h = grind (arith, nat_tests)
  in_range_lem S h = tt
  in_range_lem C h = tt

  out_of_range : (k : Kind) → range_of k m ≡ false → IsInRange k m → ⊥
  out_of_range R h r = grind (arith, nat_tests, r.0, r.1, r.2)
  out_of_range W h r = false≢true (sym h)
  out_of_range L h r = grind (arith, nat_tests)
  out_of_range S h r = false≢true (sym h)
  out_of_range C h r = false≢true (sym h)

  no_kind_lem : nat_eq (slice_index m 0) 82 ≡ false → nat_eq (slice_index m 0) 87 ≡ false → nat_eq (slice_index m 0) 76 ≡ false → nat_eq (slice_index m 0) 83 ≡ false → nat_eq (slice_index m 0) 67 ≡ false → (k : Kind) → Begins m k → ⊥
  no_kind_lem a b c d e R = eqb-false (slice_index m 0) 82 a
  no_kind_lem a b c d e W = eqb-false (slice_index m 0) 87 b
  no_kind_lem a b c d e L = eqb-false (slice_index m 0) 76 c
  no_kind_lem a b c d e S = eqb-false (slice_index m 0) 83 d
  no_kind_lem a b c d e C = eqb-false (slice_index m 0) 67 e

module _ (m : List ℕ) (P : Result Call Rejection → Type 0)
    (other_length : (length m ≡ 12 → ⊥) → P (Err Length))
    (no_kind : length m ≡ 12 → ((k : Kind) → Begins m k → ⊥) → P (Err Letter))
    (spare : (k : Kind) → length m ≡ 12 → Begins m k → SpareSet k m → P (Err Spare))
    (outside : (k : Kind) → length m ≡ 12 → Begins m k → (SpareSet k m → ⊥) → (IsInRange k m → ⊥) → P (Err Range))
    (inside : (k : Kind) → length m ≡ 12 → Begins m k → (SpareSet k m → ⊥) → IsInRange k m → P (Ok (call_of k m))) where
  as_kind : (k : Kind) → length m ≡ 12 → Begins m k → P (parsed_as k m)
  as_kind k n e =
      cond_both (spare_set m (2 ^ flags_of k - 1) (spare_from k)) (Err Spare) (cond (range_of k m) (Ok (call_of k m)) (Err Range)) P
      (λ s. spare k n e (spare_set_lem m k s))
      (λ s. cond_both (range_of k m) (Ok (call_of k m)) (Err Range) P
      (λ t. inside k n e (nothing_spare m k s) (in_range_lem m k t))
      (λ t. outside k n e (nothing_spare m k s) (out_of_range m k t)))

  -- the record as a kind, if it has the kind's letter, and else as the rest says
  one_letter : (k : Kind) (rest : Result Call Rejection) → length m ≡ 12 → (nat_eq (slice_index m 0) (letter_of k) ≡ false → P rest) → P (cond (nat_eq (slice_index m 0) (letter_of k)) (parsed_as k m) rest)
  one_letter k rest n other = cond_both (nat_eq (slice_index m 0) (letter_of k)) (parsed_as k m) rest P (λ h. as_kind k n (eqb-true (slice_index m 0) (letter_of k) h)) other

  each_letter : length m ≡ 12 → P (by_letter (slice_index m 0) m)
  each_letter n = one_letter R _ n (λ a. one_letter W _ n (λ b. one_letter L _ n (λ c. one_letter S _ n (λ d. one_letter C _ n (λ e. no_kind n (no_kind_lem m a b c d e))))))

  pub by_outcome : P (parsed m)
  unfolding parsed
  by_outcome = cond_both (nat_eq (length m) 12) (by_letter (slice_index m 0) m) (Err Length) P (λ n. each_letter (eqb-true (length m) 12 n)) (λ n. other_length (eqb-false (length m) 12 n))
