-- What a prescriber owes by the laws of its trait: that a zone's pair is in range, and that precharging only lowers.
use Rattle.std.specs.Prelude.{ℕ, ◌≤◌, slice_index_or}
use Rattle.std.proofs.Common.{le_refl, arith}
use Rattle.std.proofs.lemmas.Bool.{cond_both}
use Rattle.std.proofs.lemmas.Bool.Decides.{nat_tests}
use Rattle.sheet.specs.declared.sheet.Sheet.{Sheet}
use Rattle.sheet.specs.Charging.{no_row}
use Rattle.sheet.specs.Ranged.{rows_ranged}
use Rattle.reading.specs.declared.reading.Reading.{Reading}
use Rattle.reading.specs.Regions.{reached_by, is_end, row_at}
use Rattle.prescribers.specs.declared.prescription.Prescription.{Prescription}
use Rattle.prescribers.specs.Pairs.{AtMost, InRange}
use Rattle.prescribers.specs.Meanings.{zone_gives, precharged}

pub zone_ranged : (s : Sheet) (r : Reading) → InRange (zone_gives s.limits r)
zone_ranged s r =
    let l = s.limits in
    let n = reached_by l.degrees.edges r.cell in
    let row = slice_index_or l.rows (row_at n) no_row in
    let h = rows_ranged l s.valid (row_at n) in (
      cond_both (is_end n) 0 row.current (λ x. x ≤ 20000) (λ _. omega arith) (λ _. h.current),
      cond_both (is_end n) 0 row.voltage (λ x. x ≤ 5000) (λ _. omega arith) (λ _. h.voltage),
    )

pub precharge_lowers : (until most : ℕ) (r : Reading) (p : Prescription) → AtMost (precharged until most r p) p
precharge_lowers until most r p = record { current = grind (arith, nat_tests); voltage = le_refl p.voltage }

pub precharge_rises : (until most : ℕ) (r : Reading) (p q : Prescription) → AtMost p q → AtMost (precharged until most r p) (precharged until most r q)
precharge_rises until most r p q h = let c = h.current in record { current = grind (arith, nat_tests); voltage = h.voltage }
