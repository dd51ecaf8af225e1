use Rattle.sha256.specs.Constants.{K}
use Rattle.sha256.specs.Window.{steps, quarter}
use Rattle.sha256.proofs.rounds.second_quarter.Goals as goal

pub returns : goal.returns
unfolding steps quarter K
returns c = rw (c.step.ensures, c.step-x15.ensures, c.step-x14.ensures, c.step-x13.ensures, c.step-x12.ensures, c.step-x11.ensures, c.step-x10.ensures, c.step-x9.ensures, c.step-x8.ensures, c.step-x7.ensures, c.step-x6.ensures, c.step-x5.ensures, c.step-x4.ensures, c.step-x3.ensures, c.step-x2.ensures, c.step-x1.ensures)
