-- `lister::show::outcome` meets its contract: what was counted fits, or nothing is written. Assumes nothing.
use Rattle.std.proofs.Common.{arith}
use Rattle.lines.specs.Wrote.{most}
use Rattle.lister.specs.Laws.{fits, short}
use Rattle.lister.proofs.show.outcome.Goals as goal

pub returns-then-output-n : goal.returns-then-output-n
returns-then-output-n c = short _ _ c.count-n.ensures c.if-output-n.true

pub returns : goal.returns
unfolding most
returns c = fits _ _ c.count-n.ensures c.write.ensures (omega arith) c.if-output-n.false
