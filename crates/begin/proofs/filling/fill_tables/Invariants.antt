-- `begin::filling::fill_tables` meets its contract. The loop's invariant: the first tables are laid, and `at` is the place behind them, or the area's end.
-- Assumes nothing.
use Rattle.std.proofs.Common.{◌≡◌, min, length}
use Rattle.octets.specs.Lists.{over}
use Rattle.begin.specs.Each.{joined}
use Rattle.begin.specs.Filled.{table_of}
use Rattle.begin.proofs.filling.fill_tables.Given as goal

abbrev pub invariant-loop-seat : goal.invariant-loop-seat
invariant-loop-seat l =
    record {
      laid : l.tables ≡ over (joined (table_of l.plan l.store) l.seat-index) l.initial.tables;
      next : l.at ≡ min (length (joined (table_of l.plan l.store) l.seat-index)) (length l.initial.tables);
    }
