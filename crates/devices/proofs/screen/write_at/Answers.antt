-- `devices::screen::write_at` meets its contract. Assumes nothing.
use Rattle.octets.specs.PartLaws.{part_def}
use Rattle.devices.specs.Screen.{random_write, write_out}
use Rattle.devices.proofs.screen.write_at.Goals as goal

pub returns : goal.returns
unfolding random_write write_out
returns c = rw (c.lay.ensures, c.piece.ensures, part_def, c.moved-count.ensures)
