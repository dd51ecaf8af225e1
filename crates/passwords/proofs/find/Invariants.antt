-- `passwords::find` meets its contract: what is found from the start is what is found from the place that the loop has come to. Assumes nothing.
use Rattle.std.proofs.Common.{◌≡◌, ◌-◌, ◌≤◌, length, drop}
use Rattle.rows.specs.Records.{chunks}
use Rattle.passwords.specs.PasswordFile.{find_from, find}
use Rattle.passwords.proofs.find.Given as goal

abbrev pub invariant-loop-reading : goal.invariant-loop-reading
invariant-loop-reading l = (l.records.file.now ≡ l.file) × (l.records.count ≤ l.records.at) × (l.records.at ≤ length l.file) × (find l.name l.file ≡ find_from l.name l.records.count l.records.at (chunks (drop l.records.at l.file)))

abbrev pub decreases-loop-reading : goal.decreases-loop-reading
decreases-loop-reading l = length l.file - l.records.at
