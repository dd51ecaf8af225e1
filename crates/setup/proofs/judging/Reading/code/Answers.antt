use Rattle.setup.specs.Turns.{settled_refused, settled_accepted}
use Rattle.setup.proofs.Told.{code-malformed}
use Rattle.statements.specs.Kinds.{code_only}
use Rattle.statements.specs.Statements.{code_at}
use Rattle.setup.specs.Reading.{judged}
use Rattle.std.proofs.Common.{refl, sym, ◌∙◌}
use Rattle.setup.proofs.judging.Reading.code.Goals as goal

pub returns-in_default : goal.returns-in_default
unfolding judged
returns-in_default c = let text = c.args.self.text.now in
    rw (code-malformed c.code_at.result (code_at text c.args.behind) c.code_at.ensures (code_only text c.args.behind) c.in_default.not-Code)
    c.refused.ensures

pub returns-in-Err : goal.returns-in-Err
unfolding judged
returns-in-Err c = rw (sym c.code_at.ensures ∙ c.in-Code.is)
    (c.refused-in-Err.ensures ∙ settled_refused _ _ _ _ c.in-Err.refusal (rw (c.in-Err.is, c.of.ensures) at c.code_checked.ensures))

pub returns : goal.returns
unfolding judged
returns c = rw (c.with_code.ensures, sym c.code_at.ensures ∙ c.in-Code.is)
    (settled_accepted _ _ _ _ (rw (c.in_default-code_checked.is, c.of.ensures) at c.code_checked.ensures))
