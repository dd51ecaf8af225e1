-- `guard::test::good_plan` meets its contract: eight screens at most cannot wrap. Assumes nothing.
use Rattle.std.proofs.Common.{arith, sym, ◌∙◌, ◌≤◌}
use Rattle.guard.specs.TestLaws.{few}
use Rattle.guard.proofs.test.good_plan.Goals as goal

pub overflow_mul-plan : goal.overflow_mul-plan
overflow_mul-plan c = let h : c.args.plan.now.count ≤ 8 = few _ (sym c.good_counts.ensures ∙ c.if-good_counts.true) in omega arith
