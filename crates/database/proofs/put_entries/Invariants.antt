-- `database::put_entries` meets its contract: in the loop the entries of the rows passed are laid and counted. Assumes nothing.
use Rattle.database.specs.Row.{Rows}
use Rattle.database.proofs.put_entries.Given as goal

abbrev pub invariant-loop-row : goal.invariant-loop-row
invariant-loop-row l = Rows l.plan l.permissions l.store l.partition l.row l.count l.initial.buffer l.buffer
