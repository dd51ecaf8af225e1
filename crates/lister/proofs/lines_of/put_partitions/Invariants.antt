-- `lister::lines_of::put_partitions` meets its contract. The loop's invariant: the lines of the first p partitions are written. Assumes nothing.
use Rattle.lines.specs.Wrote.{Put}
use Rattle.lister.specs.Listing.{partition_lines}
use Rattle.lister.proofs.lines_of.put_partitions.Given as goal

abbrev pub invariant-loop-p : goal.invariant-loop-p
invariant-loop-p l = Put (partition_lines l.text l.setup l.p) l.initial.out l.out
