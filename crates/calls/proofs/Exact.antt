-- What a record is parsed as is the first refusal that it is owed, or a call where none is owed.
use Rattle.std.proofs.Common.{◌≡◌, ℕ, ◌≤◌, cond, eqb, List, length, Ok, Err, Result, sym, refl, ap, ◌∙◌, subst, arith}
use Rattle.std.proofs.lemmas.Bool.{false≢true}
use Rattle.calls.specs.declared.call.Call.{Call}
use Rattle.calls.specs.declared.rejection.Rejection.{Rejection}
use Rattle.calls.specs.declared.rejection.Rejection.TheVariants.{Letter, Spare, Range, Live, Length}
use Rattle.calls.specs.Kinds.{Kind, R, W, L, S, C, letter_of}
use Rattle.calls.specs.Parsed.{parsed}
use Rattle.calls.proofs.Outcomes.{by_outcome}
use Rattle.calls.specs.Laws.{Begins, SpareSet, IsInRange, Breaks, turn_of, FirstBroken, ParsedExactly}

-- a kind from its letter: no two kinds share one
kind_at : ℕ → Kind
kind_at n = cond (eqb n 82) R (cond (eqb n 87) W (cond (eqb n 76) L (cond (eqb n 83) S C)))

named : (k : Kind) → kind_at (letter_of k) ≡ k
unfolding kind_at
named R = refl
named W = refl
named L = refl
named S = refl
named C = refl

one_kind : (m : List ℕ) (k j : Kind) → Begins m k → Begins m j → j ≡ k
one_kind m k j e f = sym (named j) ∙ ap kind_at (sym f ∙ e) ∙ named k

-- a refusal from its turn: no two refusals share one
turn_at : ℕ → Rejection
turn_at n = cond (eqb n 0) Length (cond (eqb n 1) Letter (cond (eqb n 2) Spare (cond (eqb n 3) Range Live)))

turned : (e : Rejection) → turn_at (turn_of e) ≡ e
unfolding turn_at
turned Length = refl
turned Letter = refl
turned Spare = refl
turned Range = refl
turned Live = refl

same : (e f : Rejection) → turn_of e ≤ turn_of f → turn_of f ≤ turn_of e → e ≡ f
same e f a b = let t : turn_of e ≡ turn_of f = omega arith in sym (turned e) ∙ ap turn_at t ∙ turned f

module _ (m : List ℕ) where
  -- a result that is settled by what the record breaks
  Settled : Result Call Rejection → Type 0
  Settled (Ok c) = (e : Rejection) → Breaks m e → ⊥
  Settled (Err e) = FirstBroken m e

  -- of a record that begins with the letter of k, what it breaks is what k says
  spare_of : (k : Kind) → Begins m k → Breaks m Spare → SpareSet k m
  spare_of k e b = subst (λ j. SpareSet j m) (one_kind m k b.0 e b.1) b.2

  range_of_lem : (k : Kind) → Begins m k → Breaks m Range → IsInRange k m → ⊥
  range_of_lem k e b = subst (λ j. IsInRange j m → ⊥) (one_kind m k b.0 e b.1) b.2

  settled : Settled (parsed m)
  unfolding Settled
  settled =
      by_outcome m Settled
      (λ n. record { broken = n; first = λ f b. omega arith })
      (λ n u. record { broken = u; first = from_letter n })
      (λ k n e s. record { broken = (k, e, s); first = from_spare k n e })
      (λ k n e s r. record { broken = (k, e, r); first = from_range k n e s })
      unbroken
    where
      from_letter : length m ≡ 12 → (f : Rejection) → Breaks m f → 1 ≤ turn_of f
      from_letter n Length b = absurd (b n)
      from_letter n Letter b = omega arith
      from_letter n Spare b = omega arith
      from_letter n Range b = omega arith
      from_letter n Live b = absurd b

      from_spare : (k : Kind) → length m ≡ 12 → Begins m k → (f : Rejection) → Breaks m f → 2 ≤ turn_of f
      from_spare k n e Length b = absurd (b n)
      from_spare k n e Letter b = absurd (b k e)
      from_spare k n e Spare b = omega arith
      from_spare k n e Range b = omega arith
      from_spare k n e Live b = absurd b

      from_range : (k : Kind) → length m ≡ 12 → Begins m k → (SpareSet k m → ⊥) → (f : Rejection) → Breaks m f → 3 ≤ turn_of f
      from_range k n e s Length b = absurd (b n)
      from_range k n e s Letter b = absurd (b k e)
      from_range k n e s Spare b = absurd (s (spare_of k e b))
      from_range k n e s Range b = omega arith
      from_range k n e s Live b = absurd b

      unbroken : (k : Kind) → length m ≡ 12 → Begins m k → (SpareSet k m → ⊥) → IsInRange k m → (f : Rejection) → Breaks m f → ⊥
      unbroken k n e s r Length b = b n
      unbroken k n e s r Letter b = b k e
      unbroken k n e s r Spare b = s (spare_of k e b)
      unbroken k n e s r Range b = range_of_lem k e b r
      unbroken k n e s r Live b = b

  both_ways : (r : Result Call Rejection) → Settled r → ParsedExactly m r
  unfolding Settled
  both_ways (Ok c) s = record {
    refused = λ e h. let z : ◌≡◌ {A = ℕ} 0 1 = cc in absurd (omega arith);
    owed = λ e h. absurd (s e h.broken);
    accepted = λ h. s;
    unbroken = λ h. refl;
  }
  both_ways (Err e) s = record {
    refused = λ f h. let g : e ≡ f = cc in subst (FirstBroken m) g s;
    owed = λ f h. ap Err (same e f (s.first f h.broken) (h.first e s.broken));
    accepted = λ h. absurd (false≢true h);
    unbroken = λ h. absurd (h e s.broken);
  }

  pub exact : ParsedExactly m (parsed m)
  exact = both_ways (parsed m) settled
