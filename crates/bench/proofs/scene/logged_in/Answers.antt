use Rattle.std.proofs.Common.{refl}
use Rattle.bench.specs.Scene.{logged_in}
use Rattle.bench.proofs.scene.logged_in.Goals as goal

pub returns : goal.returns
unfolding logged_in
returns c = rw (c.login.ensures, ← c.begun-first.ensures) refl
