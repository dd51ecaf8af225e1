-- `replay_text::arguments::one_byte` meets its contract where there is one byte. Assumes nothing.
use Rattle.std.proofs.Common.{sym, ◌∙◌}
use Rattle.replay_text.specs.Arguments.{of_byte}
use Rattle.replay_text.specs.ArgumentLaws.{first_of}
use Rattle.replay_text.proofs.arguments.one_byte.Goals as goal

pub returns-in-Some-eq1 : goal.returns-in-Some-eq1
unfolding of_byte
returns-in-Some-eq1 c =
    rw (c.push.ensures, c.from.ensures, c.decode.ensures, first_of, sym c.size_of.ensures ∙ c.in-Some-eq1.is, c.in-Some-eq1.field-0-test)
