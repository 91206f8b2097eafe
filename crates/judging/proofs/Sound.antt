-- What was read from an accepted image keeps the invariant of a sheet.
use Rattle.std.proofs.Common.{◌≡◌, ℕ, ◌<◌, Bool, true, false, cond, ◌&&◌, List, [], ◌∷◌, get_or, IfOk, Some, None, Ok, Err, Option, Result, sym, refl, ap, ◌∙◌, arith, w8, to_z}
use Rattle.std.proofs.lemmas.Int.{ints}
use Rattle.std.proofs.lemmas.Bool.Decides.{nat_tests}
use Rattle.std.proofs.lemmas.Bool.{and_from}
use Rattle.layout.specs.declared.limits.Limits.{Limits}
use Rattle.layout.specs.declared.rule.Rule.{Rule}
use Rattle.layout.specs.declared.refusal.Refusal.{Refusal}
use Rattle.layout.specs.declared.refusal.Refusal.TheVariants.{Range, Conflict}
use Rattle.layout.specs.Fields.{limits_of}
use Rattle.layout.specs.Rules.{first_broken, all_kept, range_rules, conflict_rules}
use Rattle.layout.specs.Accepted.{sound, fits, is_byte}
use Rattle.layout.specs.Decoded.{decoded, ranges, conflicts}
use Rattle.layout.specs.Laws.{Bytes}
use Rattle.judging.proofs.Parts.{refuse_ok}
use Rattle.judging.proofs.RoundTrip.{accepted}

cond-all : (b : Bool) (o : Option ℕ) (p : ℕ) (all : Bool) → (o ≡ None → all ≡ true) → cond b o (Some p) ≡ None → (b && all) ≡ true
cond-all true o p all f h = f h
cond-all false o p all f h = cc

none-all : (rs : List Rule) → first_broken rs ≡ None → all_kept rs ≡ true
none-all [] h = refl
none-all (r ∷ rs) h = cond-all r.kept (first_broken rs) r.place (all_kept rs) (none-all rs) h

pub sound_accepted : (m : List ℕ) (l : Limits) → decoded m ≡ Ok l → sound l ≡ true
unfolding sound ranges conflicts
sound_accepted m l h =
    let a = accepted m l h in
    let r = none-all (range_rules (limits_of m)) (refuse_ok (first_broken (range_rules (limits_of m))) Range (Ok tt) tt a.3).0 in
    let k = none-all (conflict_rules (limits_of m)) (refuse_ok (first_broken (conflict_rules (limits_of m))) Conflict (Ok tt) tt a.4).0 in
    ap sound (sym a.5) ∙ and_from (all_kept (range_rules (limits_of m))) (all_kept (conflict_rules (limits_of m))) r k

byte_fits : (n : ℕ) → n < 256 → is_byte (to_z w8 n) ≡ true
byte_fits n h = grind (arith, ints, nat_tests)

pub fits_read : (m : List ℕ) → Bytes m → fits (limits_of m) ≡ true
unfolding fits limits_of
fits_read m b =
    let s : (p : ℕ) → is_byte (to_z w8 (get_or m p 0)) ≡ true = λ p. byte_fits (get_or m p 0) (b p) in
    rw (s 44, s 45, s 46, s 47, s 48, s 49, s 50, s 51, s 52, s 53, s 54)

pub fits_accepted : (m : List ℕ) → Bytes m → (l : Limits) → decoded m ≡ Ok l → fits l ≡ true
fits_accepted m b l h = ap fits (sym (accepted m l h).5) ∙ fits_read m b

pub when_made : (P : Limits → Type 0) (r : Result Limits Refusal) → ((l : Limits) → r ≡ Ok l → P l) → IfOk r P
when_made P (Ok l) h = h l refl
when_made P (Err e) h = tt
