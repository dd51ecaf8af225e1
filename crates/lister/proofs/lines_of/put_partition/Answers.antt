-- `lister::lines_of::put_partition` meets its contract: the dsegs' lines and the msegs', or none. Assumes nothing.
use Rattle.std.proofs.Common.{sym, ◌∙◌}
use Rattle.lines.specs.Laws.{then_put, put_called, put_nothing}
use Rattle.lister.specs.Laws.{lines_none, lines-some}
use Rattle.lister.proofs.lines_of.put_partition.Goals as goal

pub returns-then-is_active : goal.returns-then-is_active
returns-then-is_active c = put_called (lines-some c.args.text.now c.args.setup.now c.args.p (sym c.is_active.ensures ∙ c.if-is_active.true))
    (then_put (rw c.min-dsegs.ensures at c.put_segments.ensures) (rw c.min-msegs.ensures at c.put_segments-then-is_active.ensures))

pub returns-else-is_active : goal.returns-else-is_active
returns-else-is_active c = put_called (lines_none c.args.text.now c.args.setup.now c.args.p (sym c.is_active.ensures ∙ c.if-is_active.false)) (put_nothing c.args.out.now)
