-- `text::tokens::number_at` meets its contract. Assumes nothing.
use Rattle.text.specs.RunLaws.{number_said}
use Rattle.text.proofs.tokens.number_at.Goals as goal

pub returns-then-length-value : goal.returns-then-length-value
returns-then-length-value c = number_said _ _ _ _ _ _ c.token_place-place.ensures c.run-length.ensures.all
    c.piece.ensures c.decimal-value.ensures c.if-length-value.true

pub returns : goal.returns
returns c = number_said _ _ _ _ _ _ c.token_place-place.ensures c.run-length.ensures.all
    c.piece.ensures c.decimal-value.ensures c.if-length-value.false
