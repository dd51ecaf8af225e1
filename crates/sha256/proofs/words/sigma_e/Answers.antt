use Rattle.std.proofs.Common.{refl, arith}
use Rattle.sha256.specs.Functions.{Σ1}
use Rattle.sha256.proofs.Rotations.{nested_twice}
use Rattle.sha256.proofs.words.sigma_e.Goals as goal

pub returns : goal.returns
unfolding Σ1
returns c = rw (c.rotate-3.ensures, c.rotate-2.ensures, c.rotate.ensures) (nested_twice 14 5 6 7 refl c.args.x (omega arith))
