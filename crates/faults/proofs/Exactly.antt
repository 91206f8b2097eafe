-- A switch is blocked exactly when some fault that blocks it stands.
use Rattle.std.proofs.Common.{◌≡◌, Bool, true, false, ◌&&◌, List, get_or, Decides, sym, refl, subst}
use Rattle.std.proofs.lemmas.Bool.Decides.{Decides-at}
use Rattle.std.proofs.lemmas.Bool.{and_parts, and_from}
use Rattle.std.proofs.lemmas.List.Folds.{Any-from_list_any, list_any_at}
use Rattle.faults.specs.declared.fault.Fault.{Fault}
use Rattle.faults.specs.declared.fault.Fault.TheVariants.{Undervoltage, Shutdown, Overvoltage, OvercurrentCharge, OvercurrentDischarge, TooColdCharge, TooHotCharge, TooHotDischarge, DieHot, Full, Watchdog, PermanentHot, PermanentOvervoltage}
use Rattle.faults.specs.Faults.{bit_of, all}
use Rattle.faults.specs.Blocking.{blocked, SomeBlocks}
use Rattle.faults.specs.Order.{BlocksWithFewer}
use Rattle.faults.proofs.Order.{bit_below}

-- each fault stands at its bit
pub at_bit : (f : Fault) → get_or all (bit_of f) Undervoltage ≡ f
at_bit Undervoltage = refl
at_bit Shutdown = refl
at_bit Overvoltage = refl
at_bit OvercurrentCharge = refl
at_bit OvercurrentDischarge = refl
at_bit TooColdCharge = refl
at_bit TooHotCharge = refl
at_bit TooHotDischarge = refl
at_bit DieHot = refl
at_bit Full = refl
at_bit Watchdog = refl
at_bit PermanentHot = refl
at_bit PermanentOvervoltage = refl

exact_of : (blocking : Fault → Bool) (standing : List Bool) → Decides (blocked blocking standing) (SomeBlocks blocking standing)
unfolding blocked
exact_of blocking standing =
    let test : Fault → Bool = λ f. blocking f && get_or standing (bit_of f) false in (
      λ e.
          let (k, f, low, at, met) = Any-from_list_any test all e in
          let both = and_parts (blocking f) (get_or standing (bit_of f) false) met in
          record { fault = f; blocks = both.0; stands = both.1 },
      λ h.
          let met : test h.fault ≡ true = and_from (blocking h.fault) _ h.blocks h.stands in
          list_any_at test all (bit_of h.fault) Undervoltage (bit_below h.fault) (subst (λ f. test f ≡ true) (sym (at_bit h.fault)) met),
    )

pub exactly : (blocking : Fault → Bool) (standing : List Bool) (r : Bool) → r ≡ blocked blocking standing → Decides r (SomeBlocks blocking standing)
exactly blocking standing r e = Decides-at r (blocked blocking standing) e (exact_of blocking standing)

pub with_fewer : (blocking : Fault → Bool) (standing : List Bool) (r : Bool) → r ≡ blocked blocking standing → BlocksWithFewer blocking standing r
with_fewer blocking standing r e fewer le b =
    let h = (exact_of blocking fewer).0 b in
    (exactly blocking standing r e).1 (record { fault = h.fault; blocks = h.blocks; stands = le (bit_of h.fault) h.stands })
