use Rattle.std.proofs.Common.{sym}
use Rattle.octets.specs.WriteLaws.{write_at-nil}
use Rattle.database.specs.Row.{spelled_all}
use Rattle.database.specs.LaidLaws.{put_more}
use Rattle.database.proofs.put_numbers.Goals as goal

pub loop-i-init : goal.loop-i-init
unfolding spelled_all
loop-i-init c = sym (write_at-nil 0 c.args.to.now)

pub loop-i-preserved : goal.loop-i-preserved
loop-i-preserved c = rw (c.write32.ensures, c.loop-i.invariant) (put_more c.args.values.now c.loop-i.i c.args.to.now c.loop-i-test.true)
