-- `steps::account_steps::who` meets its contract: the method's contract is what the step is made of. Assumes nothing.
use Rattle.steps.specs.World.{step}
use Rattle.steps.proofs.account_steps.who.Goals as goal

pub returns : goal.returns
unfolding step
returns c = λ w. rw (← c.who.ensures)
