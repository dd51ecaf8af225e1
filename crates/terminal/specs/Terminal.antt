-- The terminal, what every call sees of it, and what it answers.
use Rattle.std.specs.Prelude.{Bool, not, ◌&&◌, ◌||◌, List, ℕ, eqb, length}
use Rattle.checks.specs.Told.{Told}
use Rattle.octets.specs.Lists.{part}
use Rattle.state.specs.declared.Partition.{Partition}
use Rattle.state.specs.declared.LoginRecord.{LoginRecord}
use Rattle.state.specs.declared.State.{State}
use Rattle.state.specs.Empty.{no_plan, no_state}
use Rattle.state.specs.Parts.{is_active, seat_at, part_at, with_part, with_login}
use Rattle.guard.specs.Guard.{guard}
use Rattle.accounts.specs.Users.{readable}
use Rattle.terminal.specs.declared.Terminal.{Terminal}
use Rattle.terminal.specs.declared.Answer.{Answer}

-- a terminal that was never started
unfoldable pub never : Terminal
never = record { plan = no_plan; state = no_state }

abbrev pub answer : ℕ → ℕ → Terminal → Answer
answer number count t = record { number = number; count = count; terminal = t }

-- an answer, with the one lent thing that the call may write: a buffer or an area
pub record Outcome : Type 0 where
  pub answer : Answer
  pub lent : List ℕ

abbrev pub outcome : Answer → List ℕ → Outcome
outcome a lent = record { answer = a; lent = lent }

-- the outcome of a call that leaves the terminal as it was
unfoldable pub unmoved : Terminal → Told → Outcome
unmoved t o = outcome (answer o.number 0 t) o.lent

-- ---- what moves

unfoldable pub with_state : State → Terminal → Terminal
with_state s t = record { plan = t.plan; state = s }

unfoldable pub with_partition : ℕ → Partition → Terminal → Terminal
with_partition p x t = with_state (with_part p x t.state) t

-- ---- what a call sees

unfoldable pub partition_of : Terminal → ℕ → Partition
partition_of t p = part_at t.state p

unfoldable pub record_of : Terminal → ℕ → LoginRecord
record_of t p = (partition_of t p).login

unfoldable pub with_record : ℕ → LoginRecord → Terminal → Terminal
with_record p r t = with_partition p (with_login r (partition_of t p)) t

-- partition p's password table in the table area, and its password file on the store
unfoldable pub table_of : Terminal → ℕ → List ℕ → List ℕ
table_of t p tables = part (seat_at t.plan p).table.place (seat_at t.plan p).table.length tables

unfoldable pub file_of : Terminal → ℕ → List ℕ → List ℕ
file_of t p store = part (seat_at t.plan p).file.place (seat_at t.plan p).file.length store

-- ---- the common checks: "First BAD_STATE .., then STOPPED, then BAD_PARTITION"

unfoldable pub guard_of : Terminal → Bool → ℕ → ℕ
guard_of t wrong p = guard t.plan t.state wrong p

-- "a lent area not as long as at start"
unfoldable pub differs : List ℕ → ℕ → Bool
differs area kept = not (eqb (length area) kept)

-- ".. or a place or count .. read in a password table, that leads outside its area": for the calls that read the table, of an active partition
unfoldable pub tables_wrong : Terminal → ℕ → List ℕ → Bool
tables_wrong t p tables = differs tables t.plan.kept.tables || (is_active t.plan p && not (readable (record_of t p) (table_of t p tables)))
