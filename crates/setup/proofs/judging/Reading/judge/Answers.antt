use Rattle.setup.specs.Turns.{of_kind}
use Rattle.statements.specs.Statements.{statement_of}
use Rattle.setup.specs.Reading.{judged}
use Rattle.std.proofs.Common.{sym, ◌∙◌}
use Rattle.setup.proofs.judging.Reading.judge.Goals as goal

pub returns-in-Code : goal.returns-in-Code
unfolding statement_of
returns-in-Code c = rw (of_kind c.args.self.text.now c.args.before.now.next _ (sym c.kind_at.ensures ∙ c.in-Code.is)) c.code.ensures

pub returns-in-Dseg : goal.returns-in-Dseg
unfolding statement_of
returns-in-Dseg c = rw (of_kind c.args.self.text.now c.args.before.now.next _ (sym c.kind_at.ensures ∙ c.in-Dseg.is)) c.dseg.ensures

pub returns-in-Mseg : goal.returns-in-Mseg
unfolding statement_of
returns-in-Mseg c = rw (of_kind c.args.self.text.now c.args.before.now.next _ (sym c.kind_at.ensures ∙ c.in-Mseg.is)) c.mseg.ensures

pub returns-in-Other : goal.returns-in-Other
unfolding statement_of judged
returns-in-Other c = rw (of_kind c.args.self.text.now c.args.before.now.next _ (sym c.kind_at.ensures ∙ c.in-Other.is)) c.refused.ensures
