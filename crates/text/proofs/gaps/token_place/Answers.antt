use Rattle.std.proofs.Common.{refl, sym, ◌∙◌, arith}
use Rattle.text.specs.Gaps.{token_place}
use Rattle.text.specs.Steps.{gap_end, gap_stop, gap_step}
use Rattle.text.proofs.gaps.token_place.Goals as goal

pub loop-i-init : goal.loop-i-init
unfolding token_place
loop-i-init c = (refl, omega arith, omega arith)

pub returns-then-not-gap_on : goal.returns-then-not-gap_on
returns-then-not-gap_on c = let text = c.args.text.now in
    let loop = c.loop-i in
    let off = sym c.gap_on.ensures ∙ c.if-not-gap_on.true in
    sym (loop.invariant.0 ∙ gap_stop loop.comment text loop.i (omega arith) off)

pub loop-i-preserved : goal.loop-i-preserved
loop-i-preserved c = let text = c.args.text.now in
    let loop = c.loop-i in
    let on = sym c.gap_on.ensures ∙ c.if-not-gap_on.false in
    (rw c.comment_on-comment.ensures (loop.invariant.0 ∙ gap_step loop.comment text loop.i (omega arith) on), omega arith, omega arith)

pub returns : goal.returns
returns c = let loop = c.loop-i in
    let all = gap_end loop.comment c.args.text.now loop.i (omega arith) in
    omega (arith, loop.invariant.0, all)
