-- `devices::screen::read_at` meets its contract. Assumes nothing.
use Rattle.octets.specs.WriteLaws.{write_at-zero}
use Rattle.devices.specs.Screen.{random_read, read_out}
use Rattle.devices.proofs.screen.read_at.Goals as goal

pub returns : goal.returns
unfolding random_read read_out
returns c = rw (c.lay.ensures, c.piece.ensures, write_at-zero, c.moved-count.ensures)
