-- `replay_text::hex::decode` meets its contract. The loop's invariant: the first i bytes are written. Assumes nothing.
use Rattle.std.proofs.Common.{◌≡◌, take}
use Rattle.octets.specs.Lists.{write_at}
use Rattle.replay_text.specs.Hex.{bytes_of}
use Rattle.replay_text.proofs.hex.decode.Given as goal

abbrev pub invariant-loop-i : goal.invariant-loop-i
invariant-loop-i l = l.to ≡ write_at l.start (take l.i (bytes_of l.word)) l.initial.to
