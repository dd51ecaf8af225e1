-- `devices::keyboard::store_key` meets its contract: a key behind the others is where the count points. Assumes nothing.
use Rattle.std.proofs.Common.{lt-ltb}
use Rattle.octets.specs.WriteLaws.{write_at-one}
use Rattle.devices.specs.Queue.{queue_add}
use Rattle.devices.proofs.keyboard.store_key.Goals as goal

pub returns : goal.returns
unfolding queue_add
returns c = rw (lt-ltb _ _ c.requires, write_at-one)
