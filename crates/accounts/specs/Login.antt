-- Login (document 01, Calls): "Order: LOGIN_BUSY, name, password, AUTH_FAILURE (no such name, then digest differs)."
use Rattle.std.specs.Prelude.{cond, not, List, [], ◌∷◌, ℕ, ◌+◌, Option, Some, None}
use Rattle.checks.specs.Checks.{Check, ◌when◌, after}
use Rattle.checks.specs.Settle.{settle}
use Rattle.octets.specs.Lists.{part}
use Rattle.octets.specs.Same.{same_bytes}
use Rattle.sha256.specs.Padding.{blocks}
use Rattle.sha256.specs.Digest.{digest}
use Rattle.passwords.specs.declared.Lookup.{Lookup}
use Rattle.passwords.specs.declared.Entry.{Entry}
use Rattle.passwords.specs.Account.{digest_length}
use Rattle.passwords.specs.PasswordFile.{find}
use Rattle.state.specs.declared.Login.TheVariants.{User}
use Rattle.state.specs.declared.LoginRecord.{LoginRecord}
use Rattle.accounts.specs.declared.Attempt.{Attempt}
use Rattle.accounts.specs.declared.Digested.{Digested}
use Rattle.accounts.specs.Strings.{is_string, string_of}
use Rattle.accounts.specs.Users.{is_user}

-- the answer: its number, its work count, and who is logged in then
abbrev pub attempt : ℕ → ℕ → LoginRecord → Attempt
attempt number count r = record { number = number; count = count; login = r }

-- the user of record i
abbrev pub user : ℕ → LoginRecord
user i = record { user = User i }

-- a password's digest, and a work count "plus one for each digest block": FIPS 180-4's blocks of the password
unfoldable pub digested : List ℕ → ℕ → Digested
digested pw count = record { digest = digest pw; count = count + blocks pw }

-- "AUTH_FAILURE (no such name, then digest differs). The answer carries a work count: the records read, up to and with the named one or all of them, plus one
-- for each digest block."
abbrev pub tried_entry : LoginRecord → List ℕ → List ℕ → ℕ → Option Entry → Attempt
tried_entry r table pw count None = attempt 300 count r
tried_entry r table pw count (Some e) =
    cond (same_bytes (digest pw) (part e.digest digest_length table))
    (attempt 0 (count + blocks pw) (user e.number))
    (attempt 300 (count + blocks pw) r)

unfoldable pub tried : LoginRecord → List ℕ → List ℕ → Lookup → Attempt
tried r table pw found = tried_entry r table pw found.count found.entry

-- "Order: LOGIN_BUSY, name, password"
unfoldable pub login_checks : LoginRecord → List ℕ → List ℕ → List Check
login_checks r name pw =
    (301 when is_user r.user)
    ∷ (302 when not (is_string name))
    ∷ (302 when not (is_string pw))
    ∷ []

-- a login, where n is the number of the common checks; "refused counts are 0, save login's at AUTH_FAILURE"
unfoldable pub login : ℕ → LoginRecord → List ℕ → List ℕ → List ℕ → Attempt
login n r table name pw =
    let m = after n (login_checks r name pw) in
    settle m (tried r table (string_of pw) (find (string_of name) table)) (attempt m 0 r)
