-- `passwords::well_formed` meets its contract: the file is well formed where the records from the place on are good that the loop has come to. Assumes nothing.
use Rattle.std.proofs.Common.{◌≡◌, ◌-◌, ◌≤◌, length, drop}
use Rattle.rows.specs.Records.{chunks}
use Rattle.passwords.specs.PasswordFile.{well_formed}
use Rattle.passwords.specs.FileLaws.{few_from, good}
use Rattle.passwords.proofs.well_formed.Given as goal

abbrev pub invariant-loop-reading : goal.invariant-loop-reading
invariant-loop-reading l = (l.records.file.now ≡ l.file) × (l.records.count ≤ l.records.at) × (l.records.at ≤ length l.file) × (well_formed l.file ≡ few_from good l.records.count (chunks (drop l.records.at l.file)))

abbrev pub decreases-loop-reading : goal.decreases-loop-reading
decreases-loop-reading l = length l.file - l.records.at
