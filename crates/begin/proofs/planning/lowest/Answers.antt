-- `begin::planning::lowest` meets its contract: the first active one that is found is the lowest. Assumes nothing.
use Rattle.std.proofs.Common.{◌≡◌, true, false, ◌∙◌, rules}
use Rattle.std.proofs.lemmas.Iterator.{first_from_Range}
use Rattle.setup.specs.Setup.{is_active}
use Rattle.begin.specs.PlannedLaws.{lowest_found}
use Rattle.begin.proofs.planning.lowest.Goals as goal

pub returns : goal.returns
returns c = let setup = c.args.setup.now in
    c.unwrap_or.ensures ∙ lowest_found setup c.find.result
    (first_from_Range _ _ _ _ (λ p. is_active setup p ≡ true) (λ p. is_active setup p ≡ false) c.find.ensures.ran
    (λ p q k. search rules)
    (λ p q k. (search rules, search rules)))
