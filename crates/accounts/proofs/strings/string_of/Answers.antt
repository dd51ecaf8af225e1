-- `accounts::strings::string_of` meets its contract: a part from place 0 on is the first bytes. Assumes nothing.
use Rattle.octets.specs.PartLaws.{part_def}
use Rattle.accounts.specs.Strings.{ending, string_of}
use Rattle.accounts.proofs.strings.string_of.Goals as goal

pub returns : goal.returns
unfolding ending string_of
returns c = rw (c.piece.ensures, c.first_zero.ensures, part_def)
