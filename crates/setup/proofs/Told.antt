-- What the else arm of a `let .. else` tells of a statement's reader: where the statement is not of the reader's own kind, it is malformed.
use Rattle.std.proofs.Common.{◌≡◌, refl, ℕ}
use Rattle.octets.specs.declared.span.Span.{Span}
use Rattle.statements.specs.declared.Grants.{Grants}
use Rattle.statements.specs.declared.Statement.{Statement}
use Rattle.statements.specs.declared.Statement.TheVariants.{Code, Dseg, Mseg, Malformed}
use Rattle.statements.specs.Kinds.{CodeOnly, DsegOnly, MsegOnly}
use Rattle.statements.specs.Kinds as kinds

pub code-malformed : (r s : Statement) → r ≡ s → CodeOnly s → ((p : ℕ) (a : Span) (b : ℕ) → r ≡ Code p a b → ⊥) → s ≡ Malformed
code-malformed r s e (kinds.code p a b) k = absurd (k p a b e)
code-malformed r s e kinds.malformed k = refl

pub dseg-malformed : (r s : Statement) → r ≡ s → DsegOnly s → ((i : ℕ) (a : Span) (g : Grants) (t : ℕ) → r ≡ Dseg i a g t → ⊥) → s ≡ Malformed
dseg-malformed r s e (kinds.dseg i a g t) k = absurd (k i a g t e)
dseg-malformed r s e kinds.malformed k = refl

pub mseg-malformed : (r s : Statement) → r ≡ s → MsegOnly s → ((i z : ℕ) (g : Grants) (t : ℕ) → r ≡ Mseg i z g t → ⊥) → s ≡ Malformed
mseg-malformed r s e (kinds.mseg i z g t) k = absurd (k i z g t e)
mseg-malformed r s e kinds.malformed k = refl
