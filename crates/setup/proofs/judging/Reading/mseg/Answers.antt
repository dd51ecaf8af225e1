use Rattle.setup.specs.Turns.{settled_refused, settled_accepted, mseg-room}
use Rattle.setup.proofs.Told.{mseg-malformed}
use Rattle.statements.specs.Kinds.{mseg_only}
use Rattle.statements.specs.Statements.{mseg_at}
use Rattle.setup.specs.Reading.{judged}
use Rattle.std.proofs.Common.{refl, sym, ◌∙◌}
use Rattle.setup.proofs.judging.Reading.mseg.Goals as goal

pub returns-in_default : goal.returns-in_default
unfolding judged
returns-in_default c = let text = c.args.self.text.now in
    rw (mseg-malformed c.mseg_at.result (mseg_at text c.args.behind) c.mseg_at.ensures (mseg_only text c.args.behind) c.in_default.not-Mseg)
    c.refused.ensures

pub returns-in-Err : goal.returns-in-Err
unfolding judged
returns-in-Err c = rw (sym c.mseg_at.ensures ∙ c.in-Mseg.is)
    (c.refused-in-Err.ensures ∙ settled_refused _ _ _ _ c.in-Err.refusal (rw (c.in-Err.is) at c.mseg_checked.ensures))

pub with_mseg-requires : goal.with_mseg-requires
with_mseg-requires c = mseg-room _ _ _ _ _ _ _ (rw c.in_default-mseg_checked.is at c.mseg_checked.ensures) refl

pub returns : goal.returns
unfolding judged
returns c = rw (c.with_mseg.ensures, c.segment.ensures, sym c.mseg_at.ensures ∙ c.in-Mseg.is)
    (settled_accepted _ _ _ _ (rw (c.in_default-mseg_checked.is) at c.mseg_checked.ensures))
