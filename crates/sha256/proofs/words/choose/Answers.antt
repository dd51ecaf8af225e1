use Rattle.std.proofs.Common.{arith}
use Rattle.sha256.specs.Words.{complement}
use Rattle.sha256.specs.Functions.{Ch}
use Rattle.sha256.proofs.Bits.{choice}
use Rattle.sha256.proofs.words.choose.Goals as goal

pub returns : goal.returns
unfolding Ch complement
returns c = choice 32 c.args.x c.args.y c.args.z (omega arith) (omega arith) (omega arith)
