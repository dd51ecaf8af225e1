use Rattle.std.proofs.Common.{arith}
use Rattle.sha256.specs.Functions.{Maj}
use Rattle.sha256.proofs.Bits.{most}
use Rattle.sha256.proofs.words.majority.Goals as goal

pub returns : goal.returns
unfolding Maj
returns c = most 32 c.args.x c.args.y c.args.z (omega arith) (omega arith) (omega arith)
