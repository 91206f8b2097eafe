-- Nothing changes between two whole degrees, so what holds at each of them holds at every temperature.
use Rattle.std.proofs.Common.{◌≡◌, ℕ, ◌+◌, ◌-◌, ◌/◌, ◌<◌, cond, List, [], ◌∷◌, ℤ, pos, negsuc, ◌-ℤ◌, ◌*ℤ◌, ◌≤ℤ◌, sym, refl, ◌∙◌, arith}
use lib.Signed.{le_z}
use Rattle.std.proofs.lemmas.Int.{ints}
use Rattle.std.proofs.lemmas.Bool.Decides.{nat_tests}
use Rattle.sheet.specs.declared.limits.Limits.{Limits}
use Rattle.reading.specs.Regions.{reached_by}
use Rattle.order.specs.Generous.{NoLowerAt, Generous}
use Rattle.order.specs.Laws.{Follows}
use Rattle.delays.proofs.Rising.{no_shorter}
use Rattle.reading.specs.Ranges.{Signed16}

-- the whole degree at or below a temperature
whole : ℤ → ℤ
whole (pos n) = pos (n / 256)
whole (negsuc n) = negsuc (n / 256)

reached_whole : (e t : ℤ) → le_z (e *ℤ pos 256) t ≡ le_z e (whole t)
unfolding whole
reached_whole (pos a) (pos n) = grind (arith, nat_tests)
reached_whole (pos a) (negsuc n) = grind (arith, ints)
reached_whole (negsuc a) (pos n) = grind (arith, ints)
reached_whole (negsuc a) (negsuc n) = grind (arith, ints, nat_tests)

reached_degree : (e d : ℤ) → le_z (e *ℤ pos 256) (d *ℤ pos 256) ≡ le_z e d
reached_degree (pos a) (pos n) = grind (arith, nat_tests)
reached_degree (pos a) (negsuc n) = grind (arith, ints)
reached_degree (negsuc a) (pos n) = grind (arith, ints)
reached_degree (negsuc a) (negsuc n) = grind (arith, ints, nat_tests)

same_reached : (es : List ℤ) (t : ℤ) → reached_by es t ≡ reached_by es (whole t *ℤ pos 256)
same_reached [] t = refl
same_reached (e ∷ es) t = λ i. cond ((reached_whole e t ∙ sym (reached_degree e (whole t))) i) 1 0 + same_reached es t i

whole_low : (t : ℤ) → negsuc 32767 ≤ℤ t → negsuc 127 ≤ℤ whole t
unfolding whole
whole_low (pos n) h = grind (arith, ints)
whole_low (negsuc n) h = grind (arith, ints)

whole_high : (t : ℤ) → t ≤ℤ pos 32767 → whole t ≤ℤ pos 127
unfolding whole
whole_high (pos n) h = grind (arith, ints)
whole_high (negsuc n) h = grind (arith, ints)

-- the whole degrees, counted from -128 on
pub place : ℤ → ℕ
place (pos n) = n + 128
place (negsuc n) = 127 - n

pub placed : (d : ℤ) → negsuc 127 ≤ℤ d → pos (place d) -ℤ pos 128 ≡ d
unfolding place
placed (pos n) h = grind (arith, ints)
placed (negsuc n) h = grind (arith, ints)

pub place_small : (d : ℤ) → d ≤ℤ pos 127 → place d < 256
unfolding place
place_small (pos n) h = grind (arith, ints)
place_small (negsuc n) h = grind (arith, ints)

pub low : (k : ℕ) → k < 256 → negsuc 127 ≤ℤ (pos k -ℤ pos 128)
low k h = grind (arith, ints)

pub high : (k : ℕ) → k < 256 → (pos k -ℤ pos 128) ≤ℤ pos 127
high k h = grind (arith, ints)

pub everywhere : (b a : Limits) → Generous b a → (t : ℤ) → Signed16 t → NoLowerAt b a t
everywhere b a g t h =
    let z = g.zones (whole t) (whole_low t h.low) (whole_high t h.high) in
    let p = same_reached b.degrees.edges t in
    let q = same_reached a.degrees.edges t in
    record {
      current = rw (p, q) z.current;
      voltage = rw (p, q) z.voltage;
      level = rw (p, q) z.level;
    }

pub follows : (b a : Limits) → Generous b a → Follows b a
follows b a g = record { zones = everywhere b a g; delays = λ t. no_shorter t _ _ (g.settings t) }
