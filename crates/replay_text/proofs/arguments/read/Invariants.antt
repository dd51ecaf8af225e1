-- `replay_text::arguments::read` meets its contract. The loop's invariant: what the whole line gives is what the rest of it gives, by the rest of the
-- pattern, to what was read. Assumes nothing.
use Rattle.std.proofs.Common.{◌≡◌, drop}
use Rattle.replay_text.specs.Arguments.{told, arguments_of, read_words, words_from}
use Rattle.replay_text.proofs.arguments.read.Given as goal

abbrev pub invariant-loop-kind : goal.invariant-loop-kind
invariant-loop-kind l =
    arguments_of l.pattern l.line l.at l.initial.given ≡ read_words (drop l.kind-index l.pattern) (words_from l.line l.place) (told l.sofar l.given)
