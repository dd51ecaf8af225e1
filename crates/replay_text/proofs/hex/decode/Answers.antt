use Rattle.std.proofs.Common.{◌≡◌, sym, ◌∙◌, ◌/◌, ◌<◌, arith, length}
use Rattle.octets.specs.WriteLaws.{write_at-nil}
use Rattle.replay_text.specs.Hex.{bytes_of}
use Rattle.replay_text.specs.HexLaws.{byte_at, length-bytes}
use Rattle.replay_text.specs.RowLaws.{one_more, all_written}
use Rattle.replay_text.proofs.hex.decode.Goals as goal

pub loop-i-init : goal.loop-i-init
loop-i-init c = sym (write_at-nil c.min-start.result c.args.to.now)

pub loop-i-preserved : goal.loop-i-preserved
loop-i-preserved c = let args = c.args in
    let loop = c.loop-i in
    let bytes = bytes_of args.word.now in
    let inside : loop.i < length args.word.now / 2 = omega arith in
    let more : loop.i < length bytes = rw length-bytes inside in
    let byte = byte_at args.word.now loop.i inside in
    one_more c.min-start.result loop.i _ 0 bytes args.to.now loop.to more (rw (byte, c.worth.ensures.counts, c.worth-in-loop-i.ensures.counts)) loop.invariant

pub returns : goal.returns
returns c = let args = c.args in
    let end : c.loop-i.i ≡ c.min-count.result = omega arith in
    rw end at c.loop-i.invariant
    ∙ all_written args.at c.min-start.result c.min-count.result (bytes_of args.word.now) args.to.now c.min-start.ensures
    (rw length-bytes c.min-count.ensures)
