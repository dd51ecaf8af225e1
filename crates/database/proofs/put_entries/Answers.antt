use Rattle.std.proofs.Common.{refl, arith}
use Rattle.state.specs.Parts.{segment_at}
use Rattle.database.specs.LaidLaws.{row_laid, rows_start, rows_step, rows-most}
use Rattle.database.proofs.put_entries.Goals as goal

pub loop-row-init : goal.loop-row-init
loop-row-init c = rows_start _

pub put_row-count-requires-clause-count_bound : goal.put_row-count-requires-clause-count_bound
put_row-count-requires-clause-count_bound c = omega (arith, c.loop-row-test.true, rows-most c.loop-row.invariant)

pub loop-row-preserved : goal.loop-row-preserved
unfolding segment_at
loop-row-preserved c = rows_step c.loop-row.invariant (row_laid refl c.right-right.ensures c.put_row-count.ensures)
