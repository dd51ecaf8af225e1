-- `text::gaps::line_of` meets its contract: the line feeds of a text are no more than its bytes, so one more fits. Assumes nothing.
use Rattle.std.proofs.Common.{ap, arith, length}
use Rattle.octets.specs.Lists.{part}
use Rattle.octets.specs.PartLaws.{length_part}
use Rattle.text.specs.Gaps.{line_of}
use Rattle.text.specs.Steps.{feeds_le}
use Rattle.text.proofs.gaps.line_of.Goals as goal

pub overflow_add-result : goal.overflow_add-result
overflow_add-result c = let piece = c.piece in
    let cut = length_part 0 c.args.at c.args.text.now in
    omega (arith, c.line_feeds.ensures, feeds_le piece.result.now, ap length piece.ensures, cut)

pub returns : goal.returns
unfolding line_of part
returns c = rw (c.line_feeds.ensures, c.piece.ensures)
