-- `accounts::who` meets its contract: a refusal writes nothing. Assumes nothing.
use Rattle.std.proofs.Common.{eq-eqb, ne_eqb}
use Rattle.checks.specs.Laws.{behind_after}
use Rattle.checks.specs.Settle.{settle}
use Rattle.accounts.specs.Who.{who}
use Rattle.accounts.proofs.who.Goals as goal

pub returns-then-fault-ne0 : goal.returns-then-fault-ne0
unfolding who settle
returns-then-fault-ne0 c = rw (← behind_after _ _ _ c.who_check.ensures, ← c.number_behind-fault.ensures, ne_eqb _ _ c.if-fault-ne0.true)

pub returns : goal.returns
unfolding who settle
returns c = rw (c.tell.ensures, ← behind_after _ _ _ c.who_check.ensures, ← c.number_behind-fault.ensures, eq-eqb _ _ c.if-fault-ne0.false)
