-- `accounts::login` meets its contract: a refusal keeps who is logged in. Assumes nothing.
use Rattle.std.proofs.Common.{eq-eqb, ne_eqb}
use Rattle.checks.specs.Laws.{behind_after}
use Rattle.checks.specs.Settle.{settle}
use Rattle.accounts.specs.Login.{login}
use Rattle.accounts.proofs.login.Goals as goal

pub returns-then-number-ne0 : goal.returns-then-number-ne0
unfolding login settle
returns-then-number-ne0 c = rw (← behind_after _ _ _ c.login_check.ensures, ← c.number_behind-number.ensures, ne_eqb _ _ c.if-number-ne0.true)

pub returns : goal.returns
unfolding login settle
returns c = rw (c.tried.ensures, ← behind_after _ _ _ c.login_check.ensures, ← c.number_behind-number.ensures, eq-eqb _ _ c.if-number-ne0.false)
