use Rattle.std.proofs.Common.{refl}
use Rattle.sha256.specs.Words.{words_at}
use Rattle.sha256.proofs.Rows.{cons}
use Rattle.sha256.proofs.padding.whole_block.Goals as goal

pub returns : goal.returns
unfolding words_at
returns c = cons c.word_at.ensures (
    cons c.word_at-2.ensures (
    cons c.word_at-3.ensures (
    cons c.word_at-4.ensures (
    cons c.word_at-5.ensures (
    cons c.word_at-6.ensures (
    cons c.word_at-7.ensures (
    cons c.word_at-8.ensures (
    cons c.word_at-9.ensures (
    cons c.word_at-10.ensures (
    cons c.word_at-11.ensures (
    cons c.word_at-12.ensures (
    cons c.word_at-13.ensures (
    cons c.word_at-14.ensures (
    cons c.word_at-15.ensures (
    cons c.word_at-16.ensures (
    refl))))))))))))))))
