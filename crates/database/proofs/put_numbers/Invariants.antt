-- `database::put_numbers` meets its contract. The loop's invariant: the numbers so far are spelled. Assumes nothing.
use Rattle.std.proofs.Common.{◌≡◌, take}
use Rattle.octets.specs.Lists.{write_at}
use Rattle.database.specs.Row.{spelled_all}
use Rattle.database.proofs.put_numbers.Given as goal

abbrev pub invariant-loop-i : goal.invariant-loop-i
invariant-loop-i l = l.to ≡ write_at 0 (spelled_all (take l.i l.values)) l.initial.to
