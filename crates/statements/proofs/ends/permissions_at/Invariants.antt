use Rattle.std.proofs.Common.{◌≡◌, ◌≤◌, ◌-◌, length}
use Rattle.statements.specs.Statements.{permissions_from, permissions_at}
use Rattle.statements.proofs.ends.permissions_at.Given as goal

abbrev pub invariant-loop-count : goal.invariant-loop-count
invariant-loop-count l = (permissions_at l.text l.at ≡ permissions_from (length l.text - l.count) l.text l.place l.count l.bits) × (l.count ≤ length l.text)
