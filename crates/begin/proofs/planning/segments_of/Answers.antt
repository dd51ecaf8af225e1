use Rattle.std.proofs.Common.{arith, length-set}
use Rattle.begin.specs.EachLaws.{firsts-step, total-more}
use Rattle.begin.specs.Planned.{start_of, segment_of}
use Rattle.begin.proofs.planning.segments_of.Goals as goal

pub loop-row-preserved : goal.loop-row-preserved
unfolding start_of
loop-row-preserved c = let args = c.args in
    let loop = c.loop-row in
    let segment = c.segment_of in
    record {
      planned = firsts-step (segment_of args.setup.now args.files.now) loop.segments loop.row segment.result (omega arith) loop.invariant.planned segment.ensures;
      rows = simp length-set loop.invariant.rows;
      next = rw (loop.invariant.next, c.size_of.ensures, total-more);
    }
