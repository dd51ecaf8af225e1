-- A record has a name where `find` finds one.
use Rattle.std.proofs.Common.{List, ◌≡◌, ℕ}
use Rattle.std.specs.Option.{is_some}
use Rattle.rows.specs.Records.{chunks}
use Rattle.passwords.specs.PasswordFile.{named, find}
use Rattle.passwords.specs.FileLaws.{is_found, named-find}

pub named_told : (n file : List ℕ) → is_some (find n file).entry ≡ named n (chunks file)
unfolding is_found
named_told n file = named-find n file
