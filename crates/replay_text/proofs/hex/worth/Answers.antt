-- `replay_text::hex::worth` meets its contract, range by range. Assumes nothing.
use Rattle.std.proofs.Common.{arith}
use Rattle.replay_text.specs.HexLaws.{figure_worth, letter_worth, below_worth, between_worth, above_worth}
use Rattle.replay_text.proofs.hex.worth.Goals as goal

pub returns-in-48-to-57-clause-counts : goal.returns-in-48-to-57-clause-counts
returns-in-48-to-57-clause-counts c = figure_worth c.args.b (omega arith) (omega arith)

pub returns-in-97-to-102-clause-counts : goal.returns-in-97-to-102-clause-counts
returns-in-97-to-102-clause-counts c = letter_worth c.args.b (omega arith) (omega arith)

pub returns-in_default-clause-counts : goal.returns-in_default-clause-counts
returns-in_default-clause-counts c = below_worth c.args.b (omega arith)

pub returns-in_default-2-clause-counts : goal.returns-in_default-2-clause-counts
returns-in_default-2-clause-counts c = between_worth c.args.b (omega arith) (omega arith)

pub returns-in_default-3-clause-counts : goal.returns-in_default-3-clause-counts
returns-in_default-3-clause-counts c = above_worth c.args.b (omega arith)
