use Rattle.std.proofs.Common.{sym, refl, ◌∙◌}
use Rattle.sha256.specs.Words.{words_at}
use Rattle.sha256.specs.Marked.{closing, marked}
use Rattle.sha256.proofs.Rows.{cons}
use Rattle.sha256.proofs.Blocks.{word-drop, at_zero}
use Rattle.sha256.proofs.padding.closing_block.Goals as goal

pub returns : goal.returns
unfolding closing words_at
returns c = cons (c.marked_word.ensures ∙ at_zero c.args.at (marked c.args.rest.now)) (
    cons (c.marked_word-2.ensures ∙ sym (word-drop c.args.at 4 (marked c.args.rest.now))) (
    cons (c.marked_word-3.ensures ∙ sym (word-drop c.args.at 8 (marked c.args.rest.now))) (
    cons (c.marked_word-4.ensures ∙ sym (word-drop c.args.at 12 (marked c.args.rest.now))) (
    cons (c.marked_word-5.ensures ∙ sym (word-drop c.args.at 16 (marked c.args.rest.now))) (
    cons (c.marked_word-6.ensures ∙ sym (word-drop c.args.at 20 (marked c.args.rest.now))) (
    cons (c.marked_word-7.ensures ∙ sym (word-drop c.args.at 24 (marked c.args.rest.now))) (
    cons (c.marked_word-8.ensures ∙ sym (word-drop c.args.at 28 (marked c.args.rest.now))) (
    cons (c.marked_word-9.ensures ∙ sym (word-drop c.args.at 32 (marked c.args.rest.now))) (
    cons (c.marked_word-10.ensures ∙ sym (word-drop c.args.at 36 (marked c.args.rest.now))) (
    cons (c.marked_word-11.ensures ∙ sym (word-drop c.args.at 40 (marked c.args.rest.now))) (
    cons (c.marked_word-12.ensures ∙ sym (word-drop c.args.at 44 (marked c.args.rest.now))) (
    cons (c.marked_word-13.ensures ∙ sym (word-drop c.args.at 48 (marked c.args.rest.now))) (
    cons (c.marked_word-14.ensures ∙ sym (word-drop c.args.at 52 (marked c.args.rest.now))) (
    cons c.upper_length.ensures (cons c.lower_length.ensures refl)))))))))))))))
