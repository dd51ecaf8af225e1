-- `database::configuration` meets its contract: the one check is that of the definition. Assumes nothing.
use Rattle.std.proofs.Common.{eq-eqb, ne_eqb}
use Rattle.checks.specs.Laws.{behind_after}
use Rattle.checks.specs.Settle.{settle}
use Rattle.database.specs.Database.{configuration}
use Rattle.database.proofs.configuration.Goals as goal

pub returns-then-fault-ne0 : goal.returns-then-fault-ne0
unfolding configuration settle
returns-then-fault-ne0 c = rw (← behind_after _ _ _ c.check.ensures, ← c.number_behind-fault.ensures, ne_eqb _ _ c.if-fault-ne0.true)

pub returns : goal.returns
unfolding configuration settle
returns c = rw (
  ← behind_after _ _ _ c.check.ensures,
  ← c.number_behind-fault.ensures,
  eq-eqb _ _ c.if-fault-ne0.false,
  c.put_database.ensures,
)
