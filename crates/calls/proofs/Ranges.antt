-- A parsed call is in range.
use Rattle.std.proofs.Common.{ℕ, List, arith, w16, to_z}
use Rattle.std.proofs.lemmas.Int.{ints}
use Rattle.sheet.specs.Fields.{word}
use Rattle.calls.specs.Kinds.{Kind, R, W, L, S, C, call_of}
use Rattle.calls.specs.Parsed.{parsed}
use Rattle.reading.specs.Ranges.{Signed16}
use Rattle.calls.specs.Laws.{IsInRange, Ranged, RangedResult}
use Rattle.calls.proofs.Outcomes.{by_outcome}

-- whatever two bytes hold, their signed value has 16 bits
signed_word_lem : (n : ℕ) → Signed16 (to_z w16 n)
signed_word_lem n = record { low = omega (arith, ints); high = omega (arith, ints) }

module _ (m : List ℕ) where
  kept : (k : Kind) → IsInRange k m → Ranged (call_of k m)
  kept R h = record { earliest = h.0; latest = h.1; voltage = h.2; current = signed_word_lem (word m 6); cell = signed_word_lem (word m 8); die = signed_word_lem (word m 10) }
  kept W h = tt
  kept L h = h
  kept S h = tt
  kept C h = tt

  pub ranged : RangedResult (parsed m)
  ranged = by_outcome m RangedResult (λ n. tt) (λ n u. tt) (λ k n e s. tt) (λ k n e s r. tt) (λ k n e s r. kept k r)
