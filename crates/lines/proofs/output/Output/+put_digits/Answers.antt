-- `lines::output::Output::put_digits` meets its contract: the digits of a tenth of the number come before its last one. Assumes nothing.
use Rattle.std.proofs.Common.{lt-ltb, le-ltb}
use Rattle.lines.specs.Laws.{then_put, put_called, put_nothing, digits-none, digits_last, digits_more}
use Rattle.lines.proofs.output.Output.+put_digits.Goals as goal
use Rattle.lines.proofs.output.Output.+put_digits.Goals.{then-v-ge10, else-v-ge10}

pub returns-then-n-eq0 : goal.returns-then-n-eq0
returns-then-n-eq0 t c = put_called (digits-none c.args.n c.args.v c.if-n-eq0.true) (put_nothing c.args.self.now)

pub returns : goal.returns
returns t c = elim c.if-v-ge10.branch [
  | then-v-ge10 w ↦ put_called (digits_more c.args.n c.args.v c.if-n-eq0.false (le-ltb _ _ w.if-v-ge10.true))
      (then_put w.put_digits.ensures (rw w.self-is at c.put_digit.ensures))
  | else-v-ge10 w ↦ put_called (digits_last c.args.n c.args.v c.if-n-eq0.false (lt-ltb _ _ w.if-v-ge10.false)) (rw w.self-is at c.put_digit.ensures)
]
