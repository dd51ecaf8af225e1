-- `lister::lines_of::put_segments` meets its contract. The loop's invariant: the lines of the first i segments are written. Assumes nothing.
use Rattle.lines.specs.Wrote.{Put}
use Rattle.lister.specs.Kinds.{row_lines}
use Rattle.lister.proofs.lines_of.put_segments.Given as goal

abbrev pub invariant-loop-i : goal.invariant-loop-i
invariant-loop-i l = Put (row_lines l.kind l.segments l.p l.i) l.initial.out l.out
