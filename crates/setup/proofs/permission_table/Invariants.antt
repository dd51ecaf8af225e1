use Rattle.std.proofs.Common.{◌≤◌, length, take, ◌≡◌}
use Rattle.setup.specs.Reading.{permission_table}
use Rattle.setup.proofs.permission_table.Given as goal

abbrev pub invariant-loop-i : goal.invariant-loop-i
invariant-loop-i l = (take l.i l.table ≡ take l.i (permission_table l.setup)) × ((length l.table ≡ 32) × (l.i ≤ 32))
