use Rattle.std.proofs.Common.{sym, ap, ◌∙◌, ◌+◌, ◌<◌, arith, length, drop, length-drop}
use Rattle.replay_text.specs.Arguments.{most, arguments_of, read_words, words_from}
use Rattle.replay_text.specs.WordLaws.{index_le}
use Rattle.replay_text.specs.ArgumentLaws.{read_step}
use Rattle.replay_text.proofs.arguments.read.Goals as goal

pub loop-kind-init : goal.loop-kind-init
unfolding arguments_of
loop-kind-init c = rw c.new-sofar.ensures

pub overflow_add-length : goal.overflow_add-length
overflow_add-length c = let line = c.args.line.now in
    let place = c.loop-kind.place in
    rw c.before-length.ensures (omega (arith, index_le 32 (drop place line), length-drop place line))

pub loop-kind-preserved : goal.loop-kind-preserved
loop-kind-preserved c = let room : length c.args.line.now < most = omega arith in
    let args = c.args in
    let loop = c.loop-kind in
    let word = c.before-length in
    let piece = c.piece in
    loop.invariant
    ∙ (read_step args.pattern.now loop.kind-index args.line.now loop.place word.result piece.result.now c.sum-place.result _
    c.loop-kind-test.true word.ensures piece.ensures c.sum-place.ensures room
    ∙ ap (read_words (drop (loop.kind-index + 1) args.pattern.now) (words_from args.line.now c.sum-place.result)) (sym c.argument.ensures))
