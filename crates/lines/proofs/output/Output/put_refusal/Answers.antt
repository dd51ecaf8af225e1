-- `lines::output::Output::put_refusal` meets its contract: five pieces, each behind the one before. Assumes nothing.
use Rattle.lines.specs.Lines.{refusal_line}
use Rattle.lines.specs.Laws.{then_put}
use Rattle.lines.proofs.output.Output.put_refusal.Goals as goal

pub returns : goal.returns
unfolding refusal_line
returns c = then_put c.put.ensures (then_put (rw c.from.ensures at c.put_decimal.ensures) (then_put c.put-2.ensures (then_put c.put_decimal-2.ensures c.put-3.ensures)))
