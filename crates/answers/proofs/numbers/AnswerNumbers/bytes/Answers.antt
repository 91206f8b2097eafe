use Rattle.std.proofs.Common.{ap, ◌∙◌}
use Rattle.answers.specs.Answers.{line_at}
use Rattle.answers.proofs.Told.{told}
use Rattle.answers.proofs.numbers.AnswerNumbers.bytes.Goals as goal

pub returns : goal.returns
returns c =
    let e = c.lay_out.ensures.value in
    record { value = e; told = ap line_at e ∙ told c.args.self.now c.lay_out.ensures.region }
