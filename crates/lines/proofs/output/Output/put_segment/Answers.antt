-- `lines::output::Output::put_segment` meets its contract: no line, or the fields, what they are of, and a line feed. Assumes nothing.
use Rattle.std.proofs.Common.{sym, ◌∙◌}
use Rattle.lines.specs.Lines.{fields}
use Rattle.lines.specs.Entries.{letter_of, what_of}
use Rattle.lines.specs.Laws.{then_put, put_called, put_nothing, line-none, line-some}
use Rattle.lines.proofs.output.Output.put_segment.Goals as goal

pub returns-then-not-is_shown : goal.returns-then-not-is_shown
returns-then-not-is_shown c = let args = c.args in
    put_called (line-none args.p (letter_of args.segment) args.i args.granted (what_of args.segment) (sym c.is_shown.ensures ∙ c.if-not-is_shown.true))
    (put_nothing args.self.now)

pub returns : goal.returns
unfolding fields
returns c = let args = c.args in
    put_called (line-some args.p (letter_of args.segment) args.i args.granted (what_of args.segment) (sym c.is_shown.ensures ∙ c.if-not-is_shown.false))
    (then_put
    (then_put c.put_decimal.ensures (then_put c.put_letter.ensures (then_put c.put_decimal-2.ensures c.put_permission.ensures)))
    (then_put c.put_what.ensures c.put.ensures))
