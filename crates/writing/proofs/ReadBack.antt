-- The image of a sheet is read as that sheet.
use Rattle.std.proofs.Common.{◌≡◌, ℕ, zero, suc, ◌+◌, ◌*◌, ◌/◌, ◌%◌, ◌<◌, true, ◌&&◌, List, [], ◌∷◌, length, get_or, ℤ, pos, negsuc, None, Ok, sum, sym, refl, ap, ◌∙◌, subst, arith, w8, to_z, of_z}
use lib.Signed.{mag}
use Rattle.std.proofs.lemmas.Int.{ints, to_z-of_z}
use Rattle.std.proofs.lemmas.Bool.Decides.{nat_tests}
use Rattle.std.proofs.lemmas.Bool.{and_parts, eq-eqb}
use Rattle.layout.specs.declared.limits.Limits.{Limits}
use Rattle.layout.specs.declared.rule.Rule.{Rule}
use Rattle.layout.specs.declared.refusal.Refusal.TheVariants.{Sum}
use Rattle.layout.specs.Fields.{limits_of}
use Rattle.layout.specs.Rules.{first_broken, all_kept, range_rules, conflict_rules}
use Rattle.layout.specs.Accepted.{sound, fits, is_byte, all_bytes, degrees_fit, lengths_fit}
use Rattle.layout.specs.Decoded.{decoded, contents, summed, ranges, conflicts, unless}
use Rattle.layout.specs.Encoded.{body_of, image_of}
use Rattle.layout.specs.Charging.{no_row}
use Rattle.layout.proofs.Facts.{lengths}
use Rattle.layout.proofs.Listed.{listed, listed_is, Sized}
use Rattle.layout.proofs.Sized.{sized}

-- a sheet's limits with every table written out
abbrev spelt : Limits → Limits
spelt l = record {
  levels = l.levels;
  degrees = record { edges = listed (pos 0) 8 0 l.degrees.edges; hot = l.degrees.hot; die = l.degrees.die; permanent = l.degrees.permanent; hysteresis = l.degrees.hysteresis };
  rows = listed no_row 7 0 l.rows;
  steps = record { voltages = listed 0 4 0 l.steps.voltages; ratios = listed 0 4 0 l.steps.ratios };
  timing = l.timing;
}

spells : (l : Limits) → Sized l → l ≡ spelt l
spells l s =
    let e = listed_is (pos 0) 8 0 l.degrees.edges (omega (arith, s.edges)) in
    let r = listed_is no_row 7 0 l.rows (omega (arith, s.rows)) in
    let v = listed_is 0 4 0 l.steps.voltages (omega (arith, s.voltages)) in
    let a = listed_is 0 4 0 l.steps.ratios (omega (arith, s.ratios)) in
    λ i. record {
      levels = l.levels;
      degrees = record { edges = e i; hot = l.degrees.hot; die = l.degrees.die; permanent = l.degrees.permanent; hysteresis = l.degrees.hysteresis };
      rows = r i;
      steps = record { voltages = v i; ratios = a i };
      timing = l.timing;
    }

two_bytes : (w : ℕ) → w % 256 + w / 256 * 256 ≡ w
two_bytes w = omega arith

byte_small : (z : ℤ) → is_byte z ≡ true → mag z < 128
byte_small (pos n) h = grind (arith, ints, nat_tests)
byte_small (negsuc n) h = grind (arith, ints, nat_tests)

small_at : (zs : List ℤ) → all_bytes zs ≡ true → (i : ℕ) → mag (get_or zs i (pos 0)) < 128
small_at [] h i = omega arith
small_at (z ∷ zs) h zero = byte_small z (and_parts (is_byte z) (all_bytes zs) h).0
small_at (z ∷ zs) h (suc i) = small_at zs (and_parts (is_byte z) (all_bytes zs) h).1 i

limits_back : (l : Limits) → degrees_fit l.degrees ≡ true → limits_of (image_of (spelt l)) ≡ spelt l
unfolding limits_of image_of body_of
limits_back l h =
    let d = l.degrees in
    let p = and_parts (all_bytes d.edges) (is_byte d.hot && (is_byte d.die && is_byte d.permanent)) h in
    let q = and_parts (is_byte d.hot) (is_byte d.die && is_byte d.permanent) p.1 in
    let r = and_parts (is_byte d.die) (is_byte d.permanent) q.1 in
    let kept : (z : ℤ) → mag z < 128 → to_z w8 (of_z w8 z) ≡ z = λ z h. to_z-of_z w8 z (record { sfits = h }) in
    let e : (i : ℕ) → to_z w8 (of_z w8 (get_or d.edges i (pos 0))) ≡ get_or d.edges i (pos 0) = λ i. kept (get_or d.edges i (pos 0)) (small_at d.edges p.0 i) in
    let hot = kept d.hot (byte_small d.hot q.0) in
    let die = kept d.die (byte_small d.die r.0) in
    let per = kept d.permanent (byte_small d.permanent r.1) in
    simp (two_bytes, e, hot, die, per)

all_none : (rs : List Rule) → all_kept rs ≡ true → first_broken rs ≡ None
all_none [] h = refl
all_none (r ∷ rs) h =
    let p = and_parts r.kept (all_kept rs) h in
    rw p.0 (all_none rs p.1)

kept_ranges : (l : Limits) → sound l ≡ true → ranges l ≡ Ok tt
unfolding sound ranges
kept_ranges l h = rw (all_none (range_rules l) (and_parts (all_kept (range_rules l)) (all_kept (conflict_rules l)) h).0)

kept_conflicts : (l : Limits) → sound l ≡ true → conflicts l ≡ Ok tt
unfolding sound conflicts
kept_conflicts l h = rw (all_none (conflict_rules l) (and_parts (all_kept (range_rules l)) (all_kept (conflict_rules l)) h).1)

contents_good : (l : Limits) → contents (image_of l) ≡ Ok tt
unfolding contents image_of body_of
contents_good l = refl

sum_good : (l : Limits) → summed (image_of (spelt l)) ≡ Ok tt
unfolding summed image_of body_of
sum_good l = ap (λ b. unless {A = Unit {0}} b Sum (Ok tt)) (eq-eqb (sum (body_of (spelt l))) (sum (body_of (spelt l)) % 256 + sum (body_of (spelt l)) / 256 * 256) (sym (two_bytes (sum (body_of (spelt l))))))

long : (l : Limits) → length (image_of (spelt l)) ≡ 116
unfolding image_of body_of
long l = refl

spelt_back : (l : Limits) → degrees_fit l.degrees ≡ true → sound (spelt l) ≡ true → decoded (image_of (spelt l)) ≡ Ok (spelt l)
spelt_back l f s =
    let m = image_of (spelt l) in
    let e = limits_back l f in
    let r : ranges (limits_of m) ≡ Ok tt = ap ranges e ∙ kept_ranges (spelt l) s in
    let k : conflicts (limits_of m) ≡ Ok tt = ap conflicts e ∙ kept_conflicts (spelt l) s in
    sized m (long l) ∙ rw (contents_good (spelt l), sum_good l, r, k) (ap Ok e)

pub reads_back : (l : Limits) → sound l ≡ true → fits l ≡ true → decoded (image_of l) ≡ Ok l
unfolding fits
reads_back l s f =
    let p = and_parts (lengths_fit l) (degrees_fit l.degrees) f in
    let e = spells l (lengths l f) in
    subst (λ x. decoded (image_of x) ≡ Ok x) (sym e) (spelt_back l p.1 (subst (λ x. sound x ≡ true) e s))
