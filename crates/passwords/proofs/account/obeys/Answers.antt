-- `passwords::account::obeys` meets its contract: what is read at the record's first place says its kind. Assumes nothing.
use Rattle.std.proofs.Common.{sym, ◌∙◌}
use Rattle.passwords.specs.AccountLaws.{unshaped, obeys-read, obeys_unshaped}
use Rattle.passwords.proofs.account.obeys.Goals as goal

pub returns : goal.returns
returns c = let step = rw c.new.ensures at (sym c.read.ensures ∙ c.in-Record.is) in
    rw (c.shaped.ensures, c.no_zero.ensures, c.name.ensures) (sym (obeys-read c.args.entry.now _ _ _ step))

pub returns-in_default : goal.returns-in_default
returns-in_default c =
    sym (obeys_unshaped c.args.entry.now (unshaped c.args.entry.now (λ k payload next e. c.in_default.not-Record k payload next (c.read.ensures ∙ rw c.new.ensures e))))
