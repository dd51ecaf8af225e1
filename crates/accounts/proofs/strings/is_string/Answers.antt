-- `accounts::strings::is_string` meets its contract: as many bytes are looked at as there are, and 33 at most. Assumes nothing.
use Rattle.std.proofs.Common.{length-take}
use Rattle.accounts.specs.Strings.{ending, is_string}
use Rattle.accounts.proofs.strings.is_string.Goals as goal

pub returns : goal.returns
unfolding ending is_string
returns c = rw (c.first_zero.ensures, c.min.ensures, length-take)
