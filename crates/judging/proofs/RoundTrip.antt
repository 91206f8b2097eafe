-- An accepted image is the image of its sheet.
use Rattle.std.proofs.Common.{◌≡◌, ℕ, ◌+◌, ◌<◌, ◌&&◌, eqb, List, ◌++◌, length, get_or, take, drop, Ok, sum, sym, ap, ◌∙◌, arith}
use Rattle.std.proofs.lemmas.Bool.{and_parts, eqb-true}
use Rattle.std.proofs.lemmas.List.{get_or-drop, take_all, take-append-drop, length-drop}
use Rattle.layout.specs.declared.limits.Limits.{Limits}
use Rattle.layout.specs.declared.refusal.Refusal.TheVariants.{Length, Header, Entry, Sum}
use Rattle.layout.specs.Fields.{word, limits_of}
use Rattle.layout.specs.Rules.{first_broken, entry_rules}
use Rattle.layout.specs.Decoded.{decoded, contents, summed, ranges, conflicts, next, refuse}
use Rattle.layout.specs.Encoded.{pair, content_bytes, body_of, image_of}
use Rattle.layout.specs.Laws.{Bytes, WritesBack, OneImage}
use Rattle.judging.proofs.Parts.{next_ok, unless_ok, refuse_ok, all_hold, entry_parts}
use Rattle.layout.proofs.Listed.{listed}
use Rattle.judging.proofs.Spelled.{spelled_is, low, high, levels_back, degrees_back, rows_back, steps_back, delays_back}

-- the four bytes of an entry, from place p of what follows the edition and the count
entry_bytes : (m : List ℕ) → Bytes m → (p kind size offset : ℕ) → offset < 256 → get_or (drop 2 m) p 0 ≡ kind → get_or (drop 2 m) (p + 1) 0 ≡ size → word (drop 2 m) (p + 2) ≡ offset → (get_or m (2 + p) 0 ≡ kind) × (get_or m (2 + (p + 1)) 0 ≡ size) × (get_or m (2 + (p + 2)) 0 ≡ offset) × (get_or m (2 + (p + 2 + 1)) 0 ≡ 0)
entry_bytes m b p kind size offset h e f g =
    let q0 = get_or-drop 2 m p 0 in
    let q1 = get_or-drop 2 m (p + 1) 0 in
    let q2 = get_or-drop 2 m (p + 2) 0 in
    let q3 = get_or-drop 2 m (p + 2 + 1) 0 in
    let l = b (2 + (p + 2)) in
    (omega arith, omega arith, omega arith, omega arith)

pub contents_back : (m : List ℕ) → Bytes m → contents m ≡ Ok tt → listed 0 22 0 m ≡ content_bytes
unfolding contents
contents_back m b h =
    let u = unless_ok (eqb (get_or m 0 0) 1 && eqb (get_or m 1 0) 5) Header (refuse (first_broken (entry_rules (drop 2 m))) Entry (Ok tt)) tt h in
    let v = and_parts (eqb (get_or m 0 0) 1) (eqb (get_or m 1 0) 5) u.0 in
    let e0 = eqb-true (get_or m 0 0) 1 v.0 in
    let e1 = eqb-true (get_or m 1 0) 5 v.1 in
    let a = all_hold (entry_rules (drop 2 m)) (refuse_ok (first_broken (entry_rules (drop 2 m))) Entry (Ok tt) tt u.1).0 in
    let r : List ℕ = drop 2 m in
    let p1 = entry_parts (get_or (drop 2 m) 0 0) (get_or (drop 2 m) 1 0) (word (drop 2 m) 2) 1 22 22 a.0 in
    let p2 = entry_parts (get_or (drop 2 m) 4 0) (get_or (drop 2 m) 5 0) (word (drop 2 m) 6) 2 12 44 a.1.0 in
    let p3 = entry_parts (get_or (drop 2 m) 8 0) (get_or (drop 2 m) 9 0) (word (drop 2 m) 10) 3 42 56 a.1.1.0 in
    let p4 = entry_parts (get_or (drop 2 m) 12 0) (get_or (drop 2 m) 13 0) (word (drop 2 m) 14) 4 12 98 a.1.1.1.0 in
    let p5 = entry_parts (get_or (drop 2 m) 16 0) (get_or (drop 2 m) 17 0) (word (drop 2 m) 18) 5 4 110 a.1.1.1.1.0 in
    let q1 = entry_bytes m b 0 1 22 22 (omega arith) p1.0 p1.1 p1.2 in
    let q2 = entry_bytes m b 4 2 12 44 (omega arith) p2.0 p2.1 p2.2 in
    let q3 = entry_bytes m b 8 3 42 56 (omega arith) p3.0 p3.1 p3.2 in
    let q4 = entry_bytes m b 12 4 12 98 (omega arith) p4.0 p4.1 p4.2 in
    let q5 = entry_bytes m b 16 5 4 110 (omega arith) p5.0 p5.1 p5.2 in
    cc

six : {a b c d e f a' b' c' d' e' f' : List ℕ} → a ≡ a' → b ≡ b' → c ≡ c' → d ≡ d' → e ≡ e' → f ≡ f' → a ++ (b ++ (c ++ (d ++ (e ++ f)))) ≡ a' ++ (b' ++ (c' ++ (d' ++ (e' ++ f'))))
six p q r s t u = cc

pub body_back : (m : List ℕ) → Bytes m → listed 0 22 0 m ≡ content_bytes → body_of (limits_of m) ≡ listed 0 114 0 m
unfolding body_of limits_of
body_back m b h = six (sym h) (levels_back m b) (degrees_back m b) (rows_back m b) (steps_back m b) (delays_back m b)

pair_back : (m : List ℕ) → Bytes m → pair (word m 114) ≡ listed 0 2 114 m
pair_back m b = simp (low, high)

pub image_back : (m : List ℕ) → Bytes m → length m ≡ 116 → contents m ≡ Ok tt → summed m ≡ Ok tt → image_of (limits_of m) ≡ m
unfolding image_of summed
image_back m b len con ok =
    let body : body_of (limits_of m) ≡ take 114 m = body_back m b (contents_back m b con) ∙ spelled_is 114 0 m (omega arith) in
    let sums : sum (take 114 m) ≡ word m 114 = eqb-true (sum (take 114 m)) (word m 114) (unless_ok (eqb (sum (take 114 m)) (word m 114)) Sum (Ok tt) tt ok).0 in
    let tail : pair (word m 114) ≡ take 2 (drop 114 m) = pair_back m b ∙ spelled_is 2 114 m (omega arith) in
    let rest : take 2 (drop 114 m) ≡ drop 114 m = take_all 2 (drop 114 m) (simp length-drop (omega arith)) in
    let whole = take-append-drop 114 m in
    ap (λ x. x ++ pair (sum x)) body ∙ ap (λ n. take 114 m ++ pair n) sums ∙ ap (λ x. take 114 m ++ x) (tail ∙ rest) ∙ whole

-- what acceptance says, step by step
pub accepted : (m : List ℕ) (s : Limits) → decoded m ≡ Ok s → (length m ≡ 116) × (contents m ≡ Ok tt) × (summed m ≡ Ok tt) × (ranges (limits_of m) ≡ Ok tt) × (conflicts (limits_of m) ≡ Ok tt) × (limits_of m ≡ s)
unfolding decoded
accepted m s h =
    let a = unless_ok (eqb (length m) 116) Length (next (contents m) (next (summed m) (next (ranges (limits_of m)) (next (conflicts (limits_of m)) (Ok (limits_of m)))))) s h in
    let b = next_ok (contents m) (next (summed m) (next (ranges (limits_of m)) (next (conflicts (limits_of m)) (Ok (limits_of m))))) s a.1 in
    let c = next_ok (summed m) (next (ranges (limits_of m)) (next (conflicts (limits_of m)) (Ok (limits_of m)))) s b.1 in
    let d = next_ok (ranges (limits_of m)) (next (conflicts (limits_of m)) (Ok (limits_of m))) s c.1 in
    let e = next_ok (conflicts (limits_of m)) (Ok (limits_of m)) s d.1 in
    let f = e.1 in
    (eqb-true (length m) 116 a.0, b.0, c.0, d.0, e.0, cc)

pub writes_back : (m : List ℕ) → Bytes m → WritesBack m (decoded m)
writes_back m b s h =
    let a = accepted m s h in
    sym (ap image_of a.5) ∙ image_back m b a.0 a.1 a.2

pub one_image : (m : List ℕ) → Bytes m → OneImage m (decoded m)
one_image m b s h n d k = sym (writes_back n d s k) ∙ writes_back m b s h
