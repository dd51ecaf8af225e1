-- `accounts::save` meets its contract: the file is written first, and then laid over the table. Assumes nothing.
use Rattle.octets.specs.WriteLaws.{write_at-zero}
use Rattle.accounts.specs.SetPassword.{on_store, in_memory}
use Rattle.accounts.proofs.save.Goals as goal

pub returns : goal.returns
unfolding on_store in_memory
returns c = (c.write_first.ensures, rw (c.lay.ensures, c.write_first.ensures, write_at-zero))
