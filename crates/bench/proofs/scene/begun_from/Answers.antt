use Rattle.std.proofs.Common.{refl}
use Rattle.bench.specs.Scene.{opened_from, after}
use Rattle.bench.proofs.scene.begun_from.Goals as goal

pub returns : goal.returns
unfolding opened_from after
returns c = rw (← c.start-started.ensures) refl
