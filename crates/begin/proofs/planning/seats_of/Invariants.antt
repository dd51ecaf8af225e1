-- `begin::planning::seats_of` meets its contract. The loop's invariant: the seats so far are planned, and `at` is where the next table begins. Assumes
-- nothing.
use Rattle.std.proofs.Common.{◌≡◌, length, take}
use Rattle.begin.specs.Each.{firsts}
use Rattle.begin.specs.Planned.{table_start, seat_of}
use Rattle.begin.proofs.planning.seats_of.Given as goal

abbrev pub invariant-loop-p : goal.invariant-loop-p
invariant-loop-p l =
    record {
      planned : take l.p l.seats ≡ firsts (seat_of l.setup l.files) l.p;
      seats : length l.seats ≡ 8;
      next : l.at ≡ table_start l.files l.p;
    }
