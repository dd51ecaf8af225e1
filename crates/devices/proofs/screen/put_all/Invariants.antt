-- `devices::screen::put_all` meets its contract. The loop's invariant: what is put from here on gives what all gives from the start, and it is a screen.
-- Assumes nothing.
use Rattle.std.proofs.Common.{◌≡◌, ◌<◌, length, drop}
use Rattle.devices.specs.Screen.{screen, put_all}
use Rattle.devices.proofs.screen.put_all.Given as goal

abbrev pub invariant-loop-byte : goal.invariant-loop-byte
invariant-loop-byte l = (put_all (drop l.byte-index l.bytes) (screen l.cells l.at) ≡ put_all l.bytes (screen l.initial.cells l.cursor)) × (length l.cells ≡ 2000) × (l.at < 2000)
