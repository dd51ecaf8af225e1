use Rattle.setup.specs.Turns.{settled_refused, settled_accepted, dseg-room}
use Rattle.setup.proofs.Told.{dseg-malformed}
use Rattle.statements.specs.Kinds.{dseg_only}
use Rattle.statements.specs.Statements.{dseg_at}
use Rattle.setup.specs.Reading.{judged}
use Rattle.std.proofs.Common.{refl, sym, ◌∙◌}
use Rattle.setup.proofs.judging.Reading.dseg.Goals as goal

pub returns-in_default : goal.returns-in_default
unfolding judged
returns-in_default c = let text = c.args.self.text.now in
    rw (dseg-malformed c.dseg_at.result (dseg_at text c.args.behind) c.dseg_at.ensures (dseg_only text c.args.behind) c.in_default.not-Dseg)
    c.refused.ensures

pub returns-in-Err : goal.returns-in-Err
unfolding judged
returns-in-Err c = rw (sym c.dseg_at.ensures ∙ c.in-Dseg.is)
    (c.refused-in-Err.ensures ∙ settled_refused _ _ _ _ c.in-Err.refusal (rw (c.in-Err.is, c.of.ensures) at c.dseg_checked.ensures))

pub with_dseg-requires : goal.with_dseg-requires
with_dseg-requires c = dseg-room _ _ _ _ _ _ _ _ _ _ _ (rw c.in_default-dseg_checked.is at c.dseg_checked.ensures) refl

pub returns : goal.returns
unfolding judged
returns c = rw (c.with_dseg.ensures, c.segment.ensures, sym c.dseg_at.ensures ∙ c.in-Dseg.is)
    (settled_accepted _ _ _ _ (rw (c.in_default-dseg_checked.is, c.of.ensures) at c.dseg_checked.ensures))
