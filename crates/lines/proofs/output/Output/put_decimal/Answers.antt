use Rattle.lines.specs.Lines.{decimal}
use Rattle.lines.proofs.output.Output.put_decimal.Goals as goal

pub returns : goal.returns
unfolding decimal
returns c = c.put_digits.ensures
