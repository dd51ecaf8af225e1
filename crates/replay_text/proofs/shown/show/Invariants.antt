-- `replay_text::shown::show` meets its contract. The loop's invariant: the first i cells are written. Assumes nothing.
use Rattle.std.proofs.Common.{◌≡◌, take}
use Rattle.octets.specs.Lists.{write_at}
use Rattle.replay_text.specs.Shown.{shown}
use Rattle.replay_text.proofs.shown.show.Given as goal

abbrev pub invariant-loop-i : goal.invariant-loop-i
invariant-loop-i l = l.to ≡ write_at l.start (take l.i (shown l.cells)) l.initial.to
