-- `lister::read` meets its contract: 401 and 402 first, then the reading. Assumes nothing.
use Rattle.std.proofs.lemmas.Result.{err_from_is_err_and}
use Rattle.lister.specs.Laws.{no-letters, outside, read_said}
use Rattle.lister.proofs.read.Goals as goal

pub returns-then-not-only_letters : goal.returns-then-not-only_letters
returns-then-not-only_letters c = no-letters c.args.letters.now c.args.text.now _ c.only_letters.ensures c.if-not-only_letters.true

pub returns-in_err-limits : goal.returns-in_err-limits
returns-in_err-limits c =
    let given = err_from_is_err_and c.from_residual.result c.from_residual.ensures.1 in
    rw (given.1, given.2)
    (outside c.args.letters.now c.args.text.now _ c.only_letters.ensures c.if-not-only_letters.false _ _ _
    c.min-count.ensures c.flags-active.ensures c.limits.ensures c.in_err-limits.field-0.0 (rw c.in_err-limits.was))

pub returns : goal.returns
returns c =
    read_said c.args.letters.now c.args.text.now _ c.only_letters.ensures c.if-not-only_letters.false _ _ _
    c.min-count.ensures c.flags-active.ensures c.limits.ensures (rw c.in_ok-limits.was) _ c.read.ensures
