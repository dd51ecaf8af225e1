-- `steps::device_steps::write_random` meets its contract: the method's contract is what the step is made of. Assumes nothing.
use Rattle.steps.specs.World.{step}
use Rattle.steps.proofs.device_steps.write_random.Goals as goal

pub returns : goal.returns
unfolding step
returns c = λ w. rw (← c.write_random.ensures)
