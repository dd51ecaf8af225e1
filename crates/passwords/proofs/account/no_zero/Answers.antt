-- `passwords::account::no_zero` meets its contract: there is no zero where the first one would stand at the end. Assumes nothing.
use Rattle.std.proofs.Math.Seq.{take-length}
use Rattle.passwords.specs.AccountLaws.{no_zero_lem}
use Rattle.passwords.proofs.account.no_zero.Goals as goal

pub returns : goal.returns
returns c = rw (c.first_zero.ensures, take-length) (no_zero_lem c.args.title.now)
