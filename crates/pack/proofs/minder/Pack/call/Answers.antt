use Rattle.std.proofs.Common.{refl, ◌∙◌}
use Rattle.pack.proofs.Answering.{called}
use Rattle.pack.proofs.minder.Pack.call.Goals as goal

pub returns : goal.returns
returns g c = called _ _ _ _ _ refl refl c.take-taken.ensures.state (c.err.ensures.value ∙ c.take-taken.ensures.refusal) c.show.ensures
