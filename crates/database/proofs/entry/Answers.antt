-- `database::entry` meets its contract: four numbers over zeros, and the path behind them. Assumes nothing.
use Rattle.statements.specs.Statements.{number_of}
use Rattle.database.specs.LaidLaws.{entry-made}
use Rattle.database.proofs.entry.Goals as goal

pub returns : goal.returns
returns c = let args = c.args in
    rw (
      c.lay.ensures,
      c.put_numbers.ensures,
      c.from.ensures,
      c.number.ensures,
    )
    (entry-made args.kind args.selector args.size (number_of args.right) args.path.now)
