-- `begin::planning::segments_of` meets its contract. The loop's invariant: the rows so far are planned, and `at` is where the next begins. Assumes nothing.
use Rattle.std.proofs.Common.{◌≡◌, length, take}
use Rattle.begin.specs.Each.{firsts}
use Rattle.begin.specs.Planned.{start_of, segment_of}
use Rattle.begin.proofs.planning.segments_of.Given as goal

abbrev pub invariant-loop-row : goal.invariant-loop-row
invariant-loop-row l =
    record {
      planned : take l.row l.segments ≡ firsts (segment_of l.setup l.files) l.row;
      rows : length l.segments ≡ 32;
      next : l.at ≡ start_of l.setup l.files l.row;
    }
