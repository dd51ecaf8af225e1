use Rattle.std.proofs.Common.{refl}
use Rattle.sha256.specs.Words.{words_at}
use Rattle.sha256.proofs.Rows.{cons}
use Rattle.sha256.proofs.padding.marked_block.Goals as goal

pub returns : goal.returns
unfolding words_at
returns c = cons c.marked_word.ensures (
    cons c.marked_word-2.ensures (
    cons c.marked_word-3.ensures (
    cons c.marked_word-4.ensures (
    cons c.marked_word-5.ensures (
    cons c.marked_word-6.ensures (
    cons c.marked_word-7.ensures (
    cons c.marked_word-8.ensures (
    cons c.marked_word-9.ensures (
    cons c.marked_word-10.ensures (
    cons c.marked_word-11.ensures (
    cons c.marked_word-12.ensures (
    cons c.marked_word-13.ensures (
    cons c.marked_word-14.ensures (
    cons c.marked_word-15.ensures (
    cons c.marked_word-16.ensures (
    refl))))))))))))))))
