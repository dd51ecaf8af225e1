-- `begin::judging::bad_passwords` meets its contract: each place is looked at. Assumes nothing.
use Rattle.std.proofs.Common.{◌≡◌, true, false, ◌∙◌, rules}
use Rattle.std.proofs.lemmas.Iterator.{cases_from_any, YieldsList-from_slice}
use Rattle.std.proofs.lemmas.Iterator.Consumers.{YieldsList-from_enumerate}
use Rattle.begin.specs.JudgeLaws.{wrong, all-looked_at}
use Rattle.begin.proofs.Made.{any_is}
use Rattle.begin.proofs.judging.bad_passwords.Goals as goal

pub returns : goal.returns
returns c = let setup = c.args.setup.now in
    let store = c.args.store.now in
    let files = c.args.files.now in
    any_is (wrong setup store) _ c.any.result
    (cases_from_any _ _ _ (λ x. wrong setup store x ≡ true) (λ x. wrong setup store x ≡ false) c.any.ensures.ran
    (YieldsList-from_enumerate (YieldsList-from_slice files cc) cc)
    (λ x q k. search rules) (λ x q k. search rules))
    ∙ all-looked_at setup store files c.requires
