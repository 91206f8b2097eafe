use Rattle.std.proofs.Common.{ap, ◌∙◌}
use Rattle.layout.specs.Decoded.{decoded}
use Rattle.writing.proofs.ReadBack.{reads_back}
use Rattle.writing.proofs.write_image.Goals as goal

pub returns : goal.returns
returns c = record {
  value = c.fill.ensures;
  read = ap decoded c.fill.ensures ∙ reads_back c.args.l.now c.requires.0 c.requires.1;
}
