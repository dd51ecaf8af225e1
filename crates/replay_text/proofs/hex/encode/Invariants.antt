-- `replay_text::hex::encode` meets its contract. The loop's invariant: the digits of the first i bytes are written. Assumes nothing.
use Rattle.std.proofs.Common.{◌≡◌, ◌*◌, take}
use Rattle.octets.specs.Lists.{write_at}
use Rattle.replay_text.specs.Hex.{hex_of}
use Rattle.replay_text.proofs.hex.encode.Given as goal

abbrev pub invariant-loop-i : goal.invariant-loop-i
invariant-loop-i l = l.to ≡ write_at l.start (take (2 * l.i) (hex_of l.from)) l.initial.to
