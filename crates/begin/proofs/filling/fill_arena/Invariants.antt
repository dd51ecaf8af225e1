-- `begin::filling::fill_arena` meets its contract. The loop's invariant: the first rows are laid, and `at` is the place behind them, or the arena's end.
-- Assumes nothing.
use Rattle.std.proofs.Common.{◌≡◌, min, length}
use Rattle.octets.specs.Lists.{over}
use Rattle.begin.specs.Each.{joined}
use Rattle.begin.specs.Filled.{contents_of}
use Rattle.begin.proofs.filling.fill_arena.Given as goal

abbrev pub invariant-loop-row : goal.invariant-loop-row
invariant-loop-row l =
    record {
      laid : l.arena ≡ over (joined (contents_of l.plan l.store) l.row) l.initial.arena;
      next : l.at ≡ min (length (joined (contents_of l.plan l.store) l.row)) (length l.initial.arena);
    }
