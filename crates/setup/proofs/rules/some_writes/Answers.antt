use Rattle.std.proofs.Common.{rules, tests, ◌∙◌, ◌&&◌, eqb, arith}
use Rattle.std.proofs.lemmas.Iterator.{YieldsList-from_range}
use Rattle.std.proofs.lemmas.Iterator.Search.{any_from_yields_List}
use Rattle.setup.specs.Setup.{is_active, permission_of}
use Rattle.setup.specs.Values.{writes_any}
use Rattle.setup.proofs.rules.some_writes.Goals as goal

pub returns : goal.returns
returns c = let setup = c.args.setup.now in
    let permissions = c.args.permissions in
    any_from_yields_List (λ p. is_active setup p && eqb (permission_of permissions.count permissions.bits p) 2) _ _ c.any.result c.any.ensures.ran
    (YieldsList-from_range 0 setup.partitions setup.partitions (cc) (omega arith))
    (λ x b q k. search (rules, tests))
    ∙ writes_any setup permissions.count permissions.bits setup.partitions
