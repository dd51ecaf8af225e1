-- `console::halt::shown` meets its contract: a zero behind what was looked at is none. Assumes nothing.
use Rattle.std.proofs.Common.{length-take}
use Rattle.octets.specs.PartLaws.{part_def}
use Rattle.console.specs.Halt.{message_end, shown_message}
use Rattle.console.proofs.halt.shown.Goals as goal

pub returns-then-end-looked : goal.returns-then-end-looked
unfolding shown_message message_end
returns-then-end-looked c = rw (c.piece.ensures, part_def, ← c.first_zero-end.ensures, length-take, ← c.min-looked.ensures, c.if-end-looked.true)

pub returns : goal.returns
unfolding shown_message message_end
returns c = rw (c.piece-2.ensures, part_def, ← c.first_zero-end.ensures, length-take, ← c.min-looked.ensures, c.if-end-looked.false)
