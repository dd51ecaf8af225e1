use Rattle.std.proofs.Common.{refl, arith}
use Rattle.sha256.specs.Words.{shr}
use Rattle.sha256.specs.Functions.{σ0}
use Rattle.sha256.proofs.Rotations.{nested}
use Rattle.sha256.proofs.words.sigma_0.Goals as goal

pub returns : goal.returns
unfolding σ0 shr
returns c = rw (c.rotate-2.ensures, c.rotate.ensures, nested 11 7 14 refl c.args.x (omega arith))
