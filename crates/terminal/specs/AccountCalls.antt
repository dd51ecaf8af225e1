-- Login, Who, Logout and Set-password, on the calling partition's record, table and file.
use Rattle.std.specs.Prelude.{false, ◌||◌, List, ℕ}
use Rattle.checks.specs.Settle.{settle}
use Rattle.octets.specs.Lists.{over, on_part}
use Rattle.state.specs.Empty.{nobody}
use Rattle.state.specs.Parts.{seat_at}
use Rattle.accounts.specs.declared.Attempt.{Attempt}
use Rattle.accounts.specs.Login.{login as attempted}
use Rattle.accounts.specs.Who.{who as named}
use Rattle.accounts.specs.SetPassword.{Changed, set_password as changed}
use Rattle.terminal.specs.declared.Terminal.{Terminal}
use Rattle.terminal.specs.declared.Answer.{Answer}
use Rattle.terminal.specs.Terminal.{Outcome, answer, unmoved, record_of, with_record, table_of, file_of, guard_of, differs, tables_wrong}

unfoldable pub tried : Terminal → ℕ → Attempt → Answer
tried t p a = answer a.number a.count (with_record p a.login t)

unfoldable pub login : Terminal → ℕ → List ℕ → List ℕ → List ℕ → Answer
login t p name password tables = tried t p (attempted (guard_of t (tables_wrong t p tables) p) (record_of t p) (table_of t p tables) name password)

unfoldable pub who : Terminal → ℕ → List ℕ → List ℕ → Outcome
who t p tables buffer = unmoved t (named (guard_of t (tables_wrong t p tables) p) (record_of t p) (table_of t p tables) buffer)

-- "Logout always succeeds past the common checks"
unfoldable pub logout : Terminal → ℕ → Answer
logout t p = settle (guard_of t false p) (answer 0 0 (with_record p nobody t)) (answer (guard_of t false p) 0 t)

-- an answer, and the two areas that set-password may write
pub record Written : Type 0 where
  pub answer : Answer
  pub store : List ℕ
  pub tables : List ℕ

abbrev pub written : Answer → List ℕ → List ℕ → Written
written a store tables = record { answer = a; store = store; tables = tables }

-- the caller's file and the caller's table become what the change made of them; nothing else in either area changes
unfoldable pub replaced : Terminal → ℕ → List ℕ → List ℕ → Changed → Written
replaced t p store tables c =
    written (answer c.number 0 t)
    (on_part (seat_at t.plan p).file.place (seat_at t.plan p).file.length (over c.file) store)
    (on_part (seat_at t.plan p).table.place (seat_at t.plan p).table.length (over c.table) tables)

unfoldable pub set_password : Terminal → ℕ → List ℕ → ℕ → List ℕ → List ℕ → Written
set_password t p password taken store tables =
    replaced t p store tables
    (changed (guard_of t (differs store t.plan.kept.store || tables_wrong t p tables) p) (record_of t p) password taken (file_of t p store) (table_of t p tables))
