-- `replay_text::hex::size_of` meets its contract: none, half as many as digits, or no such word. Assumes nothing.
use Rattle.replay_text.specs.Hex.{size_of}
use Rattle.replay_text.specs.HexLaws.{all_of}
use Rattle.replay_text.proofs.hex.size_of.Goals as goal

pub returns-then-same : goal.returns-then-same
unfolding size_of
returns-then-same c = rw (← c.same.ensures, c.if-same.true)

pub returns-then-not-spells_bytes : goal.returns-then-not-spells_bytes
unfolding size_of
returns-then-not-spells_bytes c = rw (← c.same.ensures, c.if-same.false, ← all_of, ← c.spells_bytes.ensures, c.if-not-spells_bytes.true)

pub returns : goal.returns
unfolding size_of
returns c = rw (← c.same.ensures, c.if-same.false, ← all_of, ← c.spells_bytes.ensures, c.if-not-spells_bytes.false)
