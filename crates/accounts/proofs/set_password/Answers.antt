-- `accounts::set_password` meets its contract: a refusal writes nothing; the number comes from the file as it was. Assumes nothing.
use Rattle.std.proofs.Common.{eq-eqb, ne_eqb}
use Rattle.checks.specs.Laws.{behind_after}
use Rattle.checks.specs.Settle.{settle}
use Rattle.accounts.specs.SetPassword.{set_password}
use Rattle.accounts.proofs.set_password.Goals as goal

pub returns-then-fault-ne0 : goal.returns-then-fault-ne0
unfolding set_password settle
returns-then-fault-ne0 c = rw (← behind_after _ _ _ c.set_check.ensures, ← c.number_behind-fault.ensures, ne_eqb _ _ c.if-fault-ne0.true)

pub returns : goal.returns
unfolding set_password settle
returns c = rw (
  c.number_behind.ensures,
  c.written-outcome.ensures,
  c.save.ensures.1,
  c.save.ensures.0,
  c.renew.ensures,
  ← behind_after _ _ _ c.set_check.ensures,
  ← c.number_behind-fault.ensures,
  eq-eqb _ _ c.if-fault-ne0.false,
)
