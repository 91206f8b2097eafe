use Rattle.std.proofs.Common.{sym, subst}
use Rattle.cases.specs.Cases.{WorkedCases}
use Rattle.cases.proofs.Cases.{all_hold, more_hold}
use Rattle.cases.proofs.worked_sample.Goals as goal

pub returns : goal.returns
returns c = record {
  image = c.sample_image.ensures;
  cases = subst WorkedCases (sym c.sample_image.ensures) all_hold;
  more = more_hold;
}
