-- What follows where sheet b is at least as generous as sheet a, and that this orders sheets.
use Rattle.std.specs.Prelude.{ℤ}
use Rattle.delays.specs.Delays.{DelaysNoShorter}
use Rattle.sheet.specs.declared.limits.Limits.{Limits}
use Rattle.reading.specs.Ranges.{Signed16}
use Rattle.order.specs.Generous.{NoLowerAt, Generous}

-- every sheet is at least as generous as itself, and so is one that is at least as generous as a third by way of a second
pub record Ordered (b a : Limits) : Type 0 where
  pub reflexive : Generous a a
  pub transitive : Generous b a → (c : Limits) → Generous a c → Generous b c

-- b gives no less and has no lower a level at every temperature that a reading can have, and none of its delays is shorter
pub record Follows (b a : Limits) : Type 0 where
  pub zones : (t : ℤ) → Signed16 t → NoLowerAt b a t
  pub delays : DelaysNoShorter a.timing.delaycfg b.timing.delaycfg
