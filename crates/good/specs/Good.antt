-- What start makes and every step keeps.
use Rattle.std.specs.Prelude.{true, false, List, ◌≡◌, ℕ, ◌+◌, ◌≤◌, ◌<◌, length, Some}
use Rattle.octets.specs.OnPartLaws.{Apart}
use Rattle.octets.specs.Spans.{span}
use Rattle.image.specs.Image.{spot, good as goodImage}
use Rattle.passwords.specs.PasswordFile.{well_formed, count}
use Rattle.octets.specs.declared.span.Span.{Span}
use Rattle.setup.specs.Rules.{reserved}
use Rattle.state.specs.declared.Plan.{Plan}
use Rattle.state.specs.Parts.{segment_at, seat_at, is_active}
use Rattle.guard.specs.Test.{good}
use Rattle.accounts.specs.Users.{placed}
use Rattle.begin.specs.Files.{password_path}
use Rattle.terminal.specs.Terminal.{record_of, table_of, file_of}
use Rattle.steps.specs.World.{World}

-- what start fixed of the world's places and lengths
abbrev pub plan_of : World → Plan
plan_of w = w.terminal.plan

-- of an active partition
pub record Seated (w : World) (p : ℕ) : Type 0 where
  -- its password file is the store's file of that path, at the kept place
  pub found : spot (password_path p) w.store ≡ Some (span (seat_at (plan_of w) p).file.place (seat_at (plan_of w) p).file.length)
  -- "After every call the password table in memory and the file on the store say the same" (document 00, demand 2)
  pub same : file_of w.terminal p w.store ≡ table_of w.terminal p w.tables
  -- the file is well formed
  pub formed : well_formed (file_of w.terminal p w.store) ≡ true
  -- who is logged in has a record in it
  pub user : placed (record_of w.terminal p).user (count (file_of w.terminal p w.store)) ≡ true

-- of a declared dseg: its file is a file of the store, at the kept place, and no reserved one
pub record Mapped (w : World) (row : ℕ) : Type 0 where
  pub path : List ℕ
  pub free : reserved path ≡ false
  pub found : spot path w.store ≡ Some (span (segment_at (plan_of w) row).file.place (segment_at (plan_of w) row).file.length)
  -- the path that the configuration lists is the file's own, right before its contents
  pub titled : ((segment_at (plan_of w) row).path.place + (segment_at (plan_of w) row).path.length ≡ (segment_at (plan_of w) row).file.place)
      × ((segment_at (plan_of w) row).path.length ≡ length path)

-- two spans, of which one ends before the other begins
abbrev pub SpansApart : Span → Span → Type 0
SpansApart a b = Apart a.place a.length b.place b.length

-- the whole
pub record Good (w : World) : Type 0 where
  -- the state test of BAD_STATE
  pub tested : good (plan_of w) w.terminal.state ≡ true
  -- the lent areas are as long as at start
  pub store_long : length w.store ≡ (plan_of w).kept.store
  pub arena_long : length w.arena ≡ (plan_of w).kept.arena
  pub tables_long : length w.tables ≡ (plan_of w).kept.tables
  pub screens_long : length w.screens ≡ (plan_of w).kept.screens
  -- the store image is not bad
  pub image : goodImage w.store ≡ true
  pub seated : (p : ℕ) → is_active (plan_of w) p ≡ true → Seated w p
  -- row 0 to 15 of the segments is dseg 0 to 15
  pub mapped : (row : ℕ) → row < (plan_of w).dsegs → Mapped w row
  -- row 16 to 31 is mseg 0 to 15: "all zero for an mseg", whose path has no bytes
  pub untitled : (row : ℕ) → 16 ≤ row → (segment_at (plan_of w) row).path.length ≡ 0
  -- no two active partitions share a byte of their tables
  pub tables_apart : (p q : ℕ) → (p ≡ q → ⊥) → is_active (plan_of w) p ≡ true → is_active (plan_of w) q ≡ true → SpansApart (seat_at (plan_of w) p).table (seat_at (plan_of w) q).table
