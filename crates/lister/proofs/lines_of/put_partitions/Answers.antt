use Rattle.lines.specs.Laws.{then_put, put_called, put_nothing}
use Rattle.lister.specs.Listing.{partition_lines}
use Rattle.lister.specs.Laws.{partition_more}
use Rattle.lister.proofs.lines_of.put_partitions.Goals as goal

pub loop-p-init : goal.loop-p-init
unfolding partition_lines
loop-p-init c = put_nothing c.args.out.now

pub loop-p-preserved : goal.loop-p-preserved
loop-p-preserved c = put_called (partition_more c.args.text.now c.args.setup.now c.loop-p.p) (then_put c.loop-p.invariant c.put_partition.ensures)
