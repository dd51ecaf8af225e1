use Rattle.checks.specs.Settle.{settle}
use Rattle.checks.specs.Numbers.{some_number}
use Rattle.terminal.specs.Start.{start, begun_from}
use Rattle.terminal.proofs.Terminal.start.Goals as goal

pub returns-in-Ok : goal.returns-in-Ok
unfolding start begun_from settle
returns-in-Ok c = rw (← c.in-Ok.ensures)

pub returns-in-Err : goal.returns-in-Err
unfolding start begun_from settle
returns-in-Err c = rw (← c.in-Err.ensures, c.number.ensures, some_number c.in-Err.refused.refusal)
