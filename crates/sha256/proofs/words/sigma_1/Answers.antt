use Rattle.std.proofs.Common.{refl, arith}
use Rattle.sha256.specs.Words.{shr}
use Rattle.sha256.specs.Functions.{σ1}
use Rattle.sha256.proofs.Rotations.{nested}
use Rattle.sha256.proofs.words.sigma_1.Goals as goal

pub returns : goal.returns
unfolding σ1 shr
returns c = rw (c.rotate-2.ensures, c.rotate.ensures, nested 2 17 13 refl c.args.x (omega arith))
