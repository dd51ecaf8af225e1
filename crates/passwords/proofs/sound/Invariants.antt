-- `passwords::sound` meets its contract: the file is sound where the records from the place on fit that the loop has come to. Assumes nothing.
use Rattle.std.proofs.Common.{◌≡◌, ◌-◌, ◌≤◌, length, drop}
use Rattle.rows.specs.Records.{chunks}
use Rattle.passwords.specs.PasswordFile.{sound}
use Rattle.passwords.specs.FileLaws.{few_from, fits}
use Rattle.passwords.proofs.sound.Given as goal

abbrev pub invariant-loop-reading : goal.invariant-loop-reading
invariant-loop-reading l = (l.records.file.now ≡ l.file) × (l.records.count ≤ l.records.at) × (l.records.at ≤ length l.file) × (sound l.file ≡ few_from fits l.records.count (chunks (drop l.records.at l.file)))

abbrev pub decreases-loop-reading : goal.decreases-loop-reading
decreases-loop-reading l = length l.file - l.records.at
