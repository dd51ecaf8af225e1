use Rattle.std.proofs.Common.{length, arith, ◌≡◌, refl, rules}
use Rattle.setup.specs.Values.{code-kept}
use Rattle.setup.specs.Setup.{with_code}
use Rattle.setup.proofs.Setup.with_code.Goals as goal

pub returns-then-p-lt8 : goal.returns-then-p-lt8
unfolding with_code
returns-then-p-lt8 c = refl

pub returns-else-p-lt8 : goal.returns-else-p-lt8
returns-else-p-lt8 c = let n : length c.args.self.code ≡ 8 = search rules in code-kept _ _ _ (omega arith)
