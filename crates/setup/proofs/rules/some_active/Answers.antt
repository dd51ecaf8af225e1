use Rattle.std.proofs.Common.{rules, tests, ◌∙◌}
use Rattle.std.proofs.lemmas.Iterator.{YieldsList-from_slice, YieldsList-from_take}
use Rattle.std.proofs.lemmas.Iterator.Search.{any_from_yields_List}
use Rattle.setup.specs.Values.{active_any}
use Rattle.setup.proofs.rules.some_active.Goals as goal

pub returns : goal.returns
returns c = any_from_yields_List (λ flag. flag) _ _ c.any.result c.any.ensures.ran (YieldsList-from_take c.args.count (YieldsList-from_slice c.args.active (cc)) (cc))
    (λ x b q k. search (rules, tests))
    ∙ active_any c.args.active c.args.count
