-- `lines::output::Output::put_header` meets its contract: seven pieces, each behind the one before. Assumes nothing.
use Rattle.lines.specs.Lines.{header_line}
use Rattle.lines.specs.Laws.{then_put}
use Rattle.lines.proofs.output.Output.put_header.Goals as goal

pub returns : goal.returns
unfolding header_line
returns c = then_put c.put.ensures (then_put c.put_decimal.ensures (then_put c.put-2.ensures (then_put c.put_decimal-2.ensures
    (then_put c.put-3.ensures (then_put c.put_decimal-3.ensures c.put-4.ensures)))))
