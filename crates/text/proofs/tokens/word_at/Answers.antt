-- `text::tokens::word_at` meets its contract. Assumes nothing.
use Rattle.std.proofs.Common.{arith}
use Rattle.text.specs.RunLaws.{same-fits, told}
use Rattle.text.proofs.tokens.word_at.Goals as goal

pub overflow_add-result : goal.overflow_add-result
overflow_add-result c = let args = c.args in
    let place = c.token_place-place in
    let there = told _ _ _ c.piece.ensures c.same.ensures c.if-not-same.false in
    omega (arith, same-fits args.word.now args.text.now place.result there, place.type_inv)
