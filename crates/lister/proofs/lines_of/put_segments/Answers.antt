use Rattle.std.proofs.Common.{◌<◌, arith, length-take}
use Rattle.std.proofs.lemmas.List.{get_or-take}
use Rattle.setup.specs.Values.{blank}
use Rattle.lines.specs.Laws.{then_put, put_called, put_nothing}
use Rattle.lister.specs.Laws.{row-none, row-more}
use Rattle.lister.proofs.lines_of.put_segments.Goals as goal

pub loop-i-init : goal.loop-i-init
loop-i-init c = put_called (row-none c.args.kind c.args.segments.now c.args.p) (put_nothing c.args.out.now)

pub loop-i-preserved : goal.loop-i-preserved
loop-i-preserved c =
    let args = c.args in
    let i = c.loop-i.i in
    let within : i < args.n = omega (arith, simp length-take at c.loop-i-test.true) in
    put_called
    (row-more args.kind args.segments.now args.p i _ _ _ (get_or-take args.n args.segments.now i blank within) c.entry.ensures.letter c.entry.ensures.what)
    (then_put c.loop-i.invariant c.put_segment.ensures)
