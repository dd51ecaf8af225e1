-- What the code's results say in the rules' numbers.
use Rattle.std.specs.Prelude.{ℕ, Result, Ok, Err}
use Rattle.checks.specs.Refusals.{number_of}
use Rattle.setup.specs.declared.Setup.{Setup}
use Rattle.setup.specs.declared.Refused.{Refused}
use Rattle.setup.specs.declared.judging.Progress.{Progress}
use Rattle.setup.specs.declared.judging.Reading.{Reading}
use Rattle.statements.specs.declared.Statement.{Statement}
use Rattle.setup.specs.declared.judging.Rank.{Rank}
use Rattle.setup.specs.declared.judging.Rank.TheVariants as rank
use Rattle.setup.specs.Outcomes.{Judged, Outcome}
use Rattle.setup.specs.Reading.{no_setup, accepted, refusal, judged}

abbrev pub outcome_of : Result Setup Refused → Outcome
outcome_of (Ok s) = record { number = 0; line = 0; setup = s }
outcome_of (Err r) = refusal (number_of r.refusal) r.line

abbrev pub rank_of : Rank → ℕ
rank_of rank.Start = 0
rank_of rank.Code = 1
rank_of rank.Dseg = 2
rank_of rank.Mseg = 3

abbrev pub refused_of : Refused → Judged
refused_of r = record { number = number_of r.refusal; line = r.line; next = 0; rank = 0; setup = no_setup }

abbrev pub judged_of : Result Progress Refused → Judged
judged_of (Ok p) = accepted p.next (rank_of p.rank) p.setup
judged_of (Err r) = refused_of r

-- a statement whose first token stands at a place, judged by a reading that has come so far
abbrev pub judged_by : Reading → ℕ → Progress → Statement → Judged
judged_by r place before statement = judged r.look r.image.now r.text.now place (rank_of before.rank) before.setup statement
