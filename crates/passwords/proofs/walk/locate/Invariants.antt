-- `passwords::walk::locate` meets its contract: the span looked for is that of as many records on from the place that the loop has come to. Assumes nothing.
use Rattle.std.proofs.Common.{◌≡◌, ◌-◌, ◌≤◌, length, drop}
use Rattle.rows.specs.Records.{chunks}
use Rattle.passwords.specs.Walk.{span_from, span_of}
use Rattle.passwords.proofs.walk.locate.Given as goal

abbrev pub invariant-loop-reading : goal.invariant-loop-reading
invariant-loop-reading l = (l.records.file.now ≡ l.file) × (l.records.count ≤ l.records.at) × (l.records.at ≤ length l.file) × (span_of l.i l.file ≡ span_from l.records.at (l.i - l.records.count) (chunks (drop l.records.at l.file))) × (l.records.count ≤ l.i)

abbrev pub decreases-loop-reading : goal.decreases-loop-reading
decreases-loop-reading l = length l.file - l.records.at
