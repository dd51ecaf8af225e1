use Rattle.std.proofs.Common.{◌≡◌, sym, ◌∙◌, ◌+◌, ◌-◌, ◌*◌, ◌/◌, ◌<◌, arith, length}
use Rattle.octets.specs.WriteLaws.{write_at-nil}
use Rattle.replay_text.specs.Hex.{hex_of}
use Rattle.replay_text.specs.HexLaws.{higher_at, lower_at, length-hex}
use Rattle.replay_text.specs.RowLaws.{one_more, two_more, all_written}
use Rattle.replay_text.proofs.hex.encode.Goals as goal

pub loop-i-init : goal.loop-i-init
loop-i-init c = sym (write_at-nil c.min-start.result c.args.to.now)

pub loop-i-preserved : goal.loop-i-preserved
loop-i-preserved c = let from = c.args.from.now in
    let loop = c.loop-i in
    let digits = hex_of from in
    let inside : loop.i < length from = omega arith in
    let more : 2 * loop.i + 1 < length digits = rw length-hex (omega arith) in
    let next : 2 * (loop.i + 1) ≡ 2 * loop.i + 2 = omega arith in
    rw next (two_more c.min-start.result (2 * loop.i) _ _ 0 digits c.args.to.now loop.to more
    (rw c.digit.ensures (higher_at from loop.i inside)) (rw c.digit-in-loop-i.ensures (lower_at from loop.i inside)) loop.invariant)

-- there is room for the higher digit of one byte more
pub returns-then-count-eq1 : goal.returns-then-count-eq1
returns-then-count-eq1 c = let args = c.args in
    let count = c.min-count.result in
    let digits = hex_of args.from.now in
    let inside : count / 2 < length args.from.now = omega arith in
    let more : count - 1 < length digits = rw length-hex (omega arith) in
    let here : 2 * (count / 2) ≡ count - 1 = omega arith in
    let there : 2 * c.loop-i.i ≡ count - 1 = omega arith in
    let last : count - 1 + 1 ≡ count = omega arith in
    rw last at (one_more c.min-start.result (count - 1) c.digit-then-count-eq1.result 0 digits args.to.now c.loop-i.to more
    (rw c.digit-then-count-eq1.ensures (rw here at (higher_at args.from.now (count / 2) inside))) (rw there at c.loop-i.invariant))
    ∙ all_written args.at c.min-start.result count digits args.to.now c.min-start.ensures (rw length-hex c.min-count.ensures)

pub returns-else-count-eq1 : goal.returns-else-count-eq1
returns-else-count-eq1 c = let args = c.args in
    let count = c.min-count.result in
    let end : 2 * c.loop-i.i ≡ count = omega arith in
    rw end at c.loop-i.invariant
    ∙ all_written args.at c.min-start.result count (hex_of args.from.now) args.to.now c.min-start.ensures (rw length-hex c.min-count.ensures)
