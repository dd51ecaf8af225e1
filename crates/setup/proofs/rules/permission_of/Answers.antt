use Rattle.std.proofs.Common.{arith}
use Rattle.setup.specs.Values.{no_permission, permission_far, permission-near}
use Rattle.setup.proofs.rules.permission_of.Goals as goal

pub returns-then-permissions-p : goal.returns-then-permissions-p
returns-then-permissions-p c = no_permission _ _ _ c.if-permissions-p.true

pub returns-then-behind-ge16 : goal.returns-then-behind-ge16
returns-then-behind-ge16 c = permission_far _ _ _ c.if-permissions-p.false c.if-behind-ge16.true (omega arith)

pub returns : goal.returns
returns c = permission-near _ _ _ c.if-permissions-p.false
