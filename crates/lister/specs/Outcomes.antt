-- What a reading says, as the code has it: the lines of a set-up, or the line of a refusal.
use Rattle.std.specs.Prelude.{cond, Result, Ok, Err, List, ℕ}
use Rattle.checks.specs.Refusals.{number_of}
use Rattle.lines.specs.Lines.{refusal_line}
use Rattle.setup.specs.declared.Setup.{Setup}
use Rattle.setup.specs.declared.Refused.{Refused}
use Rattle.lister.specs.Listing.{setup_lines, only_letters, answer_to}

abbrev pub said : List ℕ → Result Setup Refused → List ℕ
said text (Ok setup) = setup_lines text setup
said text (Err refused) = refusal_line (number_of refused.refusal) refused.line

-- the answer to a first line that has its line feed, and to the text behind it
abbrev pub answer_behind : List ℕ → List ℕ → List ℕ
answer_behind letters text = cond (only_letters letters) (answer_to letters text) (refusal_line 401 0)
