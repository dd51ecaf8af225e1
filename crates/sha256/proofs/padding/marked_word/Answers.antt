use Rattle.sha256.specs.Words.{word_at}
use Rattle.sha256.proofs.padding.marked_word.Goals as goal

pub returns : goal.returns
unfolding word_at
returns c = rw (c.word.ensures, c.marked_byte-4.ensures, c.marked_byte-3.ensures, c.marked_byte-2.ensures, c.marked_byte.ensures)
