-- `text::runs::run` meets its contract. Assumes nothing.
use Rattle.std.proofs.Common.{◌∙◌, arith}
use Rattle.text.specs.RunLaws.{run_taken, run_fits}
use Rattle.text.specs.Steps.{of_class}
use Rattle.text.proofs.runs.run.Goals as goal

pub returns-clause-all : goal.returns-clause-all
returns-clause-all c = let args = c.args in
    rw (← c.rest.ensures) (c.prefix.ensures ∙ run_taken (of_class args.class) c.rest.result.now)

pub returns-clause-inside : goal.returns-clause-inside
returns-clause-inside c = let args = c.args in
    let taken = rw c.rest.ensures at (c.prefix.ensures ∙ run_taken (of_class args.class) c.rest.result.now) in
    omega (arith, taken, run_fits (of_class args.class) args.text.now args.at)
