-- `accounts::digest_counted` meets its contract: a string has one block. Assumes nothing.
use Rattle.accounts.specs.Login.{digested}
use Rattle.accounts.specs.WorkLaws.{one_block}
use Rattle.accounts.proofs.digest_counted.Goals as goal

pub returns : goal.returns
unfolding digested
returns c = rw (c.digest.ensures, c.string_of.ensures, one_block)
