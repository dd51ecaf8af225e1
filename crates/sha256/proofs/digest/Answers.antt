use Rattle.std.proofs.Common.{◌≡◌, add-one, arith}
use Rattle.sha256.specs.Digest.{hash, digest}
use Rattle.sha256.proofs.Blocks.{count-blocks}
use Rattle.sha256.proofs.digest.Goals as goal

pub loop-i-init : goal.loop-i-init
unfolding hash
loop-i-init c = c.start-state.ensures

pub block-requires : goal.block-requires
block-requires c = rw (← count-blocks c.args.message.now, ← c.count-blocks.ensures) c.loop-i-test.true

pub loop-i-preserved : goal.loop-i-preserved
unfolding hash
loop-i-preserved c = rw (add-one, c.compress-next.ensures, c.block.ensures, c.loop-i.invariant)

pub returns : goal.returns
unfolding digest
returns c = let t : c.loop-i.i ≡ c.count-blocks.result = omega arith in rw (c.joined.ensures, c.loop-i.invariant, t, c.count-blocks.ensures, count-blocks c.args.message.now)
