-- `accounts::tried` meets its contract: by the two answers of the lookup. Assumes nothing.
use Rattle.std.proofs.Common.{sym, ◌∙◌, arith}
use Rattle.passwords.specs.FoundLaws.{entered}
use Rattle.accounts.specs.Login.{tried}
use Rattle.accounts.specs.WorkLaws.{few_read}
use Rattle.accounts.proofs.tried.Goals as goal

pub compared-requires : goal.compared-requires
compared-requires c = let few = few_read _ _ _ _ _ (sym c.find-entry.ensures ∙ entered _ _ c.in-Some.is) in omega arith

pub returns-in-Some : goal.returns-in-Some
unfolding tried
returns-in-Some c = rw (c.compared.ensures, ← c.string_of.ensures, ← c.find-entry.ensures, c.in-Some.is)

pub returns-in-None : goal.returns-in-None
unfolding tried
returns-in-None c = rw (c.failed.ensures, ← c.string_of.ensures, ← c.find-entry.ensures, c.in-None.is)
