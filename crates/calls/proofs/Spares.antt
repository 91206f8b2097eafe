-- The test for what is spare tells whether a spare bit or a spare byte is set.
use Rattle.std.proofs.Common.{◌≡◌, ℕ, zero, suc, ◌+◌, ◌-◌, ◌/◌, ◌%◌, ◌^◌, ◌<◌, ◌≤◌, true, false, not, eqb, ltb, List, [], ◌∷◌, get_or, drop, sym, refl, ap, ◌∙◌, subst, inl, inr, div-one, arith}
use native.Mathlib.Nat.{div-eq_of_lt}
use Rattle.std.proofs.lemmas.Nat.{shr-shr, pow_pos, pow_below, le-div}
use Rattle.std.proofs.lemmas.List.{get_or-drop}
use Rattle.std.proofs.lemmas.Bool.{cases_eq, eqb-true, eqb-false, ltb-true, ltb-false, or_cases, or_parts, and_parts, and_cases, not-true, not-false, false≢true}
use Rattle.calls.specs.Fields.{blank, spare_set}
use Rattle.calls.specs.Kinds.{Kind, flags_of, spare_from}
use Rattle.calls.specs.Laws.{SpareSet}

-- bytes that are not all zero have one that is not
some_byte : (bs : List ℕ) → blank bs ≡ false → (i : ℕ) × (0 < get_or bs i 0)
some_byte [] h = absurd (false≢true (sym h))
some_byte (b ∷ bs) h =
    elim (and_cases (eqb b 0) (blank bs) h) [
      | inl e ↦ (0, omega (arith, eqb-false b 0 e))
      | inr e ↦ let rest = some_byte bs e in (suc rest.0, rest.1)
    ]

no_byte : (bs : List ℕ) → blank bs ≡ true → (i : ℕ) → get_or bs i 0 ≡ 0
no_byte [] h i = refl
no_byte (b ∷ bs) h zero = eqb-true b 0 (and_parts (eqb b 0) (blank bs) h).0
no_byte (b ∷ bs) h (suc i) = no_byte bs (and_parts (eqb b 0) (blank bs) h).1 i

-- a number that is not zero has a bit that is set: its lowest one, or one of its half
some_bit : (most n : ℕ) → n ≤ most → 0 < n → (j : ℕ) × (n / 2 ^ j % 2 ≡ 1)
some_bit zero n l h = absurd (omega arith)
some_bit (suc most) n l h =
    elim (cases_eq (n % 2) 1) [
      | inl odd ↦ (0, ap (λ x. x % 2) (div-one n) ∙ odd)
      | inr even ↦
          let half = some_bit most (n / 2) (omega arith) (omega arith) in
          (1 + half.0, ap (λ x. x % 2) (sym (shr-shr n 1 half.0)) ∙ half.1)
    ]

-- from the bit c on
some_bit_from : (c n : ℕ) → 2 ^ c ≤ n → (j : ℕ) × (c ≤ j) × (n / 2 ^ j % 2 ≡ 1)
some_bit_from c n h =
    let high = some_bit (n / 2 ^ c) (n / 2 ^ c) (omega arith) (le-div 1 n (2 ^ c) (pow_pos c) (omega arith)) in
    (c + high.0, omega arith, ap (λ x. x % 2) (sym (shr-shr n c high.0)) ∙ high.1)

pow_le : (c j : ℕ) → c ≤ j → 2 ^ c ≤ 2 ^ j
pow_le c j h = elim (cases_eq c j) [ inl e ↦ subst (λ x. 2 ^ c ≤ 2 ^ x) e (omega arith) | inr e ↦ omega (arith, pow_below c j (omega arith)) ]

-- a number below 2 ^ c has none
no_bit_from : (c n : ℕ) → n < 2 ^ c → (j : ℕ) → c ≤ j → n / 2 ^ j % 2 ≡ 1 → ⊥
no_bit_from c n h j l b =
    let z : n / 2 ^ j ≡ 0 = div-eq_of_lt (omega (arith, pow_le c j l)) in
    let w : ◌≡◌ {A = ℕ} 0 1 = sym (ap (λ x. x % 2) z) ∙ b in
    omega arith

module _ (m : List ℕ) (k : Kind) where
  pub spare_set_lem : spare_set m (2 ^ flags_of k - 1) (spare_from k) ≡ true → SpareSet k m
  spare_set_lem h = elim (or_cases (ltb (2 ^ flags_of k - 1) (get_or m 1 0)) (not (blank (drop (spare_from k) m))) h) [
    | inl e ↦ inl (some_bit_from (flags_of k) (get_or m 1 0) (omega (arith, ltb-true (2 ^ flags_of k - 1) (get_or m 1 0) e)))
    | inr e ↦
        let s = some_byte (drop (spare_from k) m) (not-true (blank (drop (spare_from k) m)) e) in
        inr (spare_from k + s.0, omega arith, subst (λ x. 0 < x) (get_or-drop (spare_from k) m s.0 0) s.1)
  ]

  pub nothing_spare : spare_set m (2 ^ flags_of k - 1) (spare_from k) ≡ false → SpareSet k m → ⊥
  nothing_spare h s =
      let p = or_parts (ltb (2 ^ flags_of k - 1) (get_or m 1 0)) (not (blank (drop (spare_from k) m))) h in
      elim s [
        | inl t ↦ no_bit_from (flags_of k) (get_or m 1 0) (omega (arith, ltb-false (2 ^ flags_of k - 1) (get_or m 1 0) p.0, pow_pos (flags_of k))) t.0 t.1 t.2
        | inr t ↦
            let n = no_byte (drop (spare_from k) m) (not-false (blank (drop (spare_from k) m)) p.1) (t.0 - spare_from k) in
            let g = get_or-drop (spare_from k) m (t.0 - spare_from k) 0 in
            let i : spare_from k + (t.0 - spare_from k) ≡ t.0 = omega (arith, t.1) in
            let z : get_or m t.0 0 ≡ 0 = ap (λ x. get_or m x 0) (sym i) ∙ sym g ∙ n in
            omega (arith, t.2, z)
      ]
