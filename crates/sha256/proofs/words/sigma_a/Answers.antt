use Rattle.std.proofs.Common.{refl, arith}
use Rattle.sha256.specs.Functions.{Σ0}
use Rattle.sha256.proofs.Rotations.{nested_twice}
use Rattle.sha256.proofs.words.sigma_a.Goals as goal

pub returns : goal.returns
unfolding Σ0
returns c = rw (c.rotate-3.ensures, c.rotate-2.ensures, c.rotate.ensures) (nested_twice 9 11 2 10 refl c.args.x (omega arith))
