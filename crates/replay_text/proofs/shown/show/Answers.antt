use Rattle.std.proofs.Common.{◌≡◌, sym, ◌∙◌, ◌<◌, arith, length}
use Rattle.octets.specs.WriteLaws.{write_at-nil}
use Rattle.replay_text.specs.Shown.{shown}
use Rattle.replay_text.specs.ShownLaws.{shown-at, length-shown}
use Rattle.replay_text.specs.RowLaws.{one_more, all_written}
use Rattle.replay_text.proofs.shown.show.Goals as goal

pub loop-i-init : goal.loop-i-init
loop-i-init c = sym (write_at-nil c.min-start.result c.args.to.now)

pub loop-i-preserved : goal.loop-i-preserved
loop-i-preserved c = let args = c.args in
    let loop = c.loop-i in
    let bytes = shown args.cells.now in
    let inside : loop.i < length args.cells.now = omega arith in
    let more : loop.i < length bytes = rw length-shown inside in
    one_more c.min-start.result loop.i _ 0 bytes args.to.now loop.to more (rw c.shown_byte.ensures (shown-at args.cells.now loop.i inside)) loop.invariant

pub returns : goal.returns
returns c = let args = c.args in
    let end : c.loop-i.i ≡ c.min-count.result = omega arith in
    rw end at c.loop-i.invariant
    ∙ all_written args.at c.min-start.result c.min-count.result (shown args.cells.now) args.to.now c.min-start.ensures (rw length-shown c.min-count.ensures)
