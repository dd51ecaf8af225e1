use Rattle.bench.specs.Scene.{opened}
use Rattle.bench.proofs.scene.begun.Goals as goal

pub returns : goal.returns
unfolding opened
returns c = rw (← c.new.ensures) c.begun_from.ensures
