-- `database::clear` meets its contract, by what is filled. Assumes nothing.
use Rattle.octets.specs.WriteLaws.{write_at-zero}
use Rattle.database.proofs.clear.Goals as goal

pub returns : goal.returns
returns c = rw (c.fill.ensures, write_at-zero)
