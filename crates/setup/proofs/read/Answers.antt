use Rattle.std.proofs.Common.{◌≡◌, ◌-◌, ◌+◌, arith, sym, ap, refl, ◌∙◌, Ok}
use Rattle.std.proofs.lemmas.Result.{err_from_is_err_and}
use Rattle.std.proofs.lemmas.Bool.{eqb-false}
use Rattle.checks.specs.Refusals.{number_of}
use Rattle.setup.specs.Turns.{turn_out, turn-ended, turn-refused, turn_more}
use Rattle.checks.specs.Numbers.{some_number}
use Rattle.setup.specs.Views.{outcome_of, judged_of, rank_of}
use Rattle.setup.specs.Reading.{read, read_from}
use Rattle.setup.proofs.read.Goals as goal

pub returns-then-text-place : goal.returns-then-text-place
unfolding read
returns-then-text-place c = let args = c.args in
    let before = c.loop.progress in
    c.ended.ensures
    ∙ sym (turn-ended args.look args.image.now args.text.now (41 - c.loop.counter) before.next (rank_of before.rank) before.setup (omega arith) _
    c.token_place-place.ensures c.if-text-place.true)
    ∙ sym c.loop.invariant.0
    ∙ rw c.begun.ensures

pub returns-in_err-progress : goal.returns-in_err-progress
unfolding read
returns-in_err-progress c = let args = c.args in
    let before = c.loop.progress in
    let judged = rw c.in_err-progress.was at c.judge.ensures in
    let given = err_from_is_err_and c.from_residual.result c.from_residual.ensures.1 in
    rw (given.1, given.2)
    (sym (turn-refused args.look args.image.now args.text.now (41 - c.loop.counter) before.next (rank_of before.rank) before.setup (omega arith) _
    c.token_place-place.ensures c.if-text-place.false _ judged (eqb-false (number_of c.in_err-progress.field-0.0.refusal) 0 (some_number c.in_err-progress.field-0.0.refusal)))
    ∙ sym c.loop.invariant.0
    ∙ rw c.begun.ensures)

pub loop-preserved : goal.loop-preserved
loop-preserved c = let args = c.args in
    let before = c.loop.progress in
    let judged = rw c.in_ok-progress.was at c.judge.ensures in
    let after = c.in_ok-progress.progress in
    let one : 41 - c.loop.counter - 1 ≡ 41 - (c.loop.counter + 1) = omega arith in (
      c.loop.invariant.0
          ∙ rw one at (turn_more args.look args.image.now args.text.now (41 - c.loop.counter) before.next (rank_of before.rank) before.setup (omega arith) _
          c.token_place-place.ensures c.if-text-place.false (judged_of (Ok after)) judged refl),
      omega arith,
    )

pub returns : goal.returns
unfolding read
returns c = let args = c.args in
    let before = c.loop.progress in
    rw c.into.ensures
    (sym (turn_out args.look args.image.now args.text.now (41 - c.loop.counter) before.next (rank_of before.rank) before.setup (omega arith))
    ∙ sym c.loop.invariant.0
    ∙ rw c.begun.ensures)
