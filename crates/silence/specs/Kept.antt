-- q's own login, who and set-password behind the mask that keeps q's login record: what they answer hangs on no digest, but for a login's number.
use Rattle.std.specs.Prelude.{cond, List, ℕ, ◌+◌, eqb, Option, Some, None}
use Rattle.state.specs.declared.LoginRecord.{LoginRecord}
use Rattle.passwords.specs.declared.Lookup.{Lookup}
use Rattle.passwords.specs.declared.Entry.{Entry}
use Rattle.passwords.specs.PasswordFile.{find}
use Rattle.accounts.specs.declared.Attempt.{Attempt}
use Rattle.accounts.specs.Strings.{string_of}
use Rattle.accounts.specs.Login.{attempt, user}
use Rattle.terminal.specs.Terminal.{record_of, table_of}
use Rattle.terminal.specs.AccountCalls as accounts
use Rattle.steps.specs.World.{World, Result, answers}

-- ---- login

-- what a login comes to, by its number, the record before it, and where the name was found
abbrev pub reported_entry : ℕ → LoginRecord → ℕ → Option Entry → Attempt
reported_entry number r count None = cond (eqb number 300) (attempt 300 count r) (attempt number 0 r)
reported_entry number r count (Some e) =
    cond (eqb number 0) (attempt 0 (count + 1) (user e.number)) (cond (eqb number 300) (attempt 300 (count + 1) r) (attempt number 0 r))

unfoldable pub reported : ℕ → LoginRecord → Lookup → Attempt
reported number r found = reported_entry number r found.count found.entry

-- a login as it is seen in a masked world, where its number is told
unfoldable pub shown_login : ℕ → List ℕ → World → ℕ → Result
shown_login q name x number =
    answers x (accounts.tried x.terminal q (reported number (record_of x.terminal q) (find (string_of name) (table_of x.terminal q x.tables))))
