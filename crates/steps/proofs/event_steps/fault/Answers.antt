-- `steps::event_steps::fault` meets its contract: the method's contract is what the step is made of. Assumes nothing.
use Rattle.steps.specs.World.{step}
use Rattle.steps.proofs.event_steps.fault.Goals as goal

pub returns : goal.returns
unfolding step
returns c = λ w. rw (← c.fault.ensures)
