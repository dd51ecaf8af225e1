-- `text::tokens::size_at` meets its contract: a number that was read is small. Assumes nothing.
use Rattle.std.proofs.Common.{sym, ◌∙◌, arith}
use Rattle.text.specs.Sound.{number_read}
use Rattle.text.proofs.tokens.size_at.Goals as goal

pub sized-requires : goal.sized-requires
sized-requires c = let args = c.args in
    let is = sym c.number_at.ensures ∙ c.in_ok-value.was in
    omega (arith, (number_read args.text.now args.at _ _ is).small)
