use Rattle.std.proofs.Common.{refl}
use Rattle.sha256.specs.Words.{rotr, shl, shr}
use Rattle.sha256.proofs.words.rotate.Goals as goal

pub returns : goal.returns
unfolding rotr shl shr
returns c = refl
