use Rattle.std.proofs.Common.{rules, tests, ◌∙◌, ◌&&◌, not, arith}
use Rattle.std.proofs.lemmas.Iterator.{YieldsList-from_range}
use Rattle.std.proofs.lemmas.Iterator.Search.{any_from_yields_List}
use Rattle.setup.specs.Setup.{is_active, has_code}
use Rattle.setup.specs.Values.{missing_any}
use Rattle.setup.proofs.rules.code_missing.Goals as goal

pub returns : goal.returns
returns c = let setup = c.args.setup.now in
    any_from_yields_List (λ p. is_active setup p && not (has_code setup p)) _ _ c.any.result c.any.ensures.ran (YieldsList-from_range 0 8 8 (cc) (omega arith))
    (λ x b q k. search (rules, tests))
    ∙ missing_any setup 8
