use Rattle.std.proofs.Common.{◌≡◌, ℕ, List, length, slice_index, Err, sym, ap, ◌∙◌, subst}
use Rattle.std.proofs.lemmas.Bool.{eq-eqb, ne_eqb}
use Rattle.calls.specs.declared.rejection.Rejection.TheVariants.{Length}
use Rattle.calls.specs.Parsed.{by_letter, parsed}
use Rattle.calls.specs.Laws.{ParsedExactly, RangedResult}
use Rattle.calls.proofs.Exact.{exact}
use Rattle.calls.proofs.Ranges.{ranged}
use Rattle.calls.proofs.parsing.parse.Goals as goal

-- what a record of the right length, and of another one, is parsed as
long : (m : List ℕ) → length m ≡ 12 → by_letter (slice_index m 0) m ≡ parsed m
unfolding parsed
long m h = rw (eq-eqb (length m) 12 h)

other : (m : List ℕ) → (length m ≡ 12 → ⊥) → Err Length ≡ parsed m
unfolding parsed
other m h = rw (ne_eqb (length m) 12 h)

pub returns-in_default : goal.returns-in_default
returns-in_default c =
    let m = c.args.bytes.now in
    let e = other m c.in_default.ensures.1 in
    record { value = e; exact = subst (ParsedExactly m) (sym e) (exact m); ranged = tt }

pub returns : goal.returns
returns c =
    let m = c.args.bytes.now in
    let whole = c.in-Ok.ensures.1 in
    let e : c.parse_record.result ≡ parsed m = c.parse_record.ensures ∙ ap (λ bytes. by_letter (slice_index bytes 0) bytes) whole.same ∙ long m whole.long in
    record { value = e; exact = subst (ParsedExactly m) (sym e) (exact m); ranged = subst RangedResult (sym e) (ranged m) }
