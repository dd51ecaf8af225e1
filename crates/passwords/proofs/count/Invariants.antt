-- `passwords::count` meets its contract: all records are those read and those from the place on that the loop has come to. Assumes nothing.
use Rattle.std.proofs.Common.{◌≡◌, ◌-◌, ◌+◌, ◌≤◌, length, drop}
use Rattle.rows.specs.Records.{chunks}
use Rattle.passwords.specs.PasswordFile.{count}
use Rattle.passwords.proofs.count.Given as goal

abbrev pub invariant-loop-reading : goal.invariant-loop-reading
invariant-loop-reading l = (l.records.file.now ≡ l.file) × (l.records.count ≤ l.records.at) × (l.records.at ≤ length l.file) × (count l.file ≡ l.records.count + length (chunks (drop l.records.at l.file)))

abbrev pub decreases-loop-reading : goal.decreases-loop-reading
decreases-loop-reading l = length l.file - l.records.at
