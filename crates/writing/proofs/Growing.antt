-- A buffer that is filled from its start, part by part.
use Rattle.std.proofs.Common.{◌≡◌, ℕ, ◌+◌, ◌*◌, List, ◌++◌, length, take, ap, ◌∙◌, append_assoc, arith}
use Rattle.std.specs.List.{flat_map}
use Rattle.layout.specs.declared.limits.Limits.{Limits}
use Rattle.layout.specs.declared.limits.Steps.{Steps}
use Rattle.layout.specs.Encoded.{pair, content_bytes, level_bytes, degree_bytes, row_bytes, step_bytes, timing_bytes, body_of}
use Rattle.layout.proofs.Listed.{listed, listed_is}

-- one more part: what `put` says of the part that a call made
pub grow : (at k n : ℕ) (new old part xs ys : List ℕ) → take (at + length part) new ≡ take at old ++ part → length part ≡ k → at + k ≡ n → part ≡ ys → take at old ≡ xs → take n new ≡ xs ++ ys
grow at k n new old part xs ys e l m p q = cc

-- the same of the words that `put_words` wrote
pub grow_words : (at k n : ℕ) (new old words xs ys : List ℕ) → take (at + 2 * length words) new ≡ take at old ++ flat_map pair words → length words ≡ k → at + 2 * k ≡ n → flat_map pair words ≡ ys → take at old ≡ xs → take n new ≡ xs ++ ys
grow_words at k n new old words xs ys e l m p q = cc

-- a table of four, written out
four : (xs : List ℕ) → length xs ≡ 4 → xs ≡ listed 0 4 0 xs
four xs h = listed_is 0 4 0 xs (omega (arith, h))

pub with_steps : (xs : List ℕ) (s : Steps) → length s.voltages ≡ 4 → length s.ratios ≡ 4 → (xs ++ flat_map pair s.voltages) ++ s.ratios ≡ xs ++ step_bytes s
with_steps xs s v r =
    append_assoc xs (flat_map pair s.voltages) s.ratios ∙ ap (λ ys. xs ++ (flat_map pair ys ++ s.ratios)) (four s.voltages v)
    ∙ ap (λ ys. xs ++ (flat_map pair (listed 0 4 0 s.voltages) ++ ys)) (four s.ratios r)

pub grown : (l : Limits) → ((((content_bytes ++ level_bytes l.levels) ++ degree_bytes l.degrees) ++ flat_map row_bytes l.rows) ++ step_bytes l.steps) ++ timing_bytes l.timing ≡ body_of l
unfolding body_of
grown l = simp append_assoc
