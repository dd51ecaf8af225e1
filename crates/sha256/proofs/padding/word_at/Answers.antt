use Rattle.sha256.specs.Words.{word_at}
use Rattle.sha256.proofs.padding.word_at.Goals as goal

pub returns : goal.returns
unfolding word_at
returns c = c.word.ensures
