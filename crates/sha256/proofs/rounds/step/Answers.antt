use Rattle.sha256.specs.Window.{step}
use Rattle.sha256.proofs.rounds.step.Goals as goal

pub returns : goal.returns
unfolding step
returns c = rw (c.slide-window.ensures, c.round-state.ensures)
