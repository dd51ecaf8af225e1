-- A change of one file of the store that keeps its length: where each file stands and every other file stay as they were, and a change of a file that is not
-- a reserved one leaves a good world good.
use Rattle.std.specs.Prelude.{true, false, List, ◌≡◌, refl, ℕ, ◌+◌, get_or, Some}
use Rattle.std.proofs.Common.{sym, ap, ◌∙◌, arith}
use Rattle.std.proofs.lemmas.Bool.{false≢true}
use Rattle.octets.specs.Lists.{KeepsLength}
use Rattle.octets.specs.Same.{same_bytes}
use Rattle.octets.specs.Spans.{span}
use Rattle.image.specs.Image.{spot, file, on_file}
use Rattle.image.specs.SpotLaws.{file-at}
use Rattle.image.specs.ChangeLaws.{length-on_file, spot-on_file, good-on_file, file-on_file, file-on_file-other}
use Rattle.setup.specs.Rules.{reserved}
use Rattle.state.specs.Parts.{is_active, seat_at}
use Rattle.begin.specs.Files.{password_path}
use Rattle.terminal.specs.Terminal.{file_of}
use Rattle.steps.specs.World.{World, with_store}
use Rattle.good.specs.Good.{plan_of, Seated, Mapped, Good}

-- ---- paths

password_reserved : (p : ℕ) → reserved (password_path p) ≡ true
unfolding reserved password_path same_bytes
password_reserved p = refl

-- a path that is not reserved is no password file's
pub free_no_password : (path : List ℕ) (p : ℕ) → reserved path ≡ false → path ≡ password_path p → ⊥
free_no_password path p free e = false≢true (sym free ∙ rw e (password_reserved p))

-- two partitions have two password files
pub passwords-differ : (p q : ℕ) → (p ≡ q → ⊥) → password_path p ≡ password_path q → ⊥
unfolding password_path
passwords-differ p q differ e =
    let digits : 48 + p ≡ 48 + q = ap (λ (l : List ℕ). get_or l 8 0) e in
    differ (omega arith)

module _ (w : World) (g : Good w) (path : List ℕ) (f : List ℕ → List ℕ) (keeps : KeepsLength f) where
  abbrev Afterwards : List ℕ
  Afterwards = on_file path f w.store

  -- ---- the password file of an active partition

  pub still_found : (p : ℕ) → is_active (plan_of w) p ≡ true
      → spot (password_path p) Afterwards ≡ Some (span (seat_at (plan_of w) p).file.place (seat_at (plan_of w) p).file.length)
  still_found p a = spot-on_file f keeps path w.store (password_path p) ∙ (g.seated p a).found

  -- it is what the store has under its path
  before : (p : ℕ) → is_active (plan_of w) p ≡ true → file (password_path p) w.store ≡ file_of w.terminal p w.store
  unfolding file_of
  before p a = file-at w.store (password_path p) _ _ (g.seated p a).found

  afterwards : (p : ℕ) → is_active (plan_of w) p ≡ true → file (password_path p) Afterwards ≡ file_of w.terminal p Afterwards
  unfolding file_of
  afterwards p a = file-at Afterwards (password_path p) _ _ (still_found p a)

  -- a change of another file leaves it alone
  pub other-file : (p : ℕ) → is_active (plan_of w) p ≡ true → (path ≡ password_path p → ⊥) → file_of w.terminal p Afterwards ≡ file_of w.terminal p w.store
  other-file p a differ = sym (afterwards p a) ∙ file-on_file-other f keeps path w.store (password_path p) differ ∙ before p a

  -- a change of it is that change
  pub own-file : (p : ℕ) → is_active (plan_of w) p ≡ true → path ≡ password_path p → file_of w.terminal p Afterwards ≡ f (file_of w.terminal p w.store)
  own-file p a same =
      let changed : file (password_path p) Afterwards ≡ f (file (password_path p) w.store) = rw (← same) (file-on_file f keeps path w.store) in
      sym (afterwards p a) ∙ changed ∙ ap f (before p a)

  -- ---- the world

  pub still_mapped : (row : ℕ) → Mapped w row → Mapped (with_store Afterwards w) row
  still_mapped row m = record { path = m.path; free = m.free; found = spot-on_file f keeps path w.store m.path ∙ m.found; titled = m.titled }

  pub good-file : reserved path ≡ false → Good (with_store Afterwards w)
  good-file free =
      record {
        tested = g.tested;
        store_long = length-on_file f keeps path w.store ∙ g.store_long;
        arena_long = g.arena_long;
        tables_long = g.tables_long;
        screens_long = g.screens_long;
        image = good-on_file f keeps path w.store ∙ g.image;
        seated = seated;
        mapped = λ row h. still_mapped row (g.mapped row h);
        untitled = g.untitled;
        tables_apart = g.tables_apart;
      }
    where
      seated : (p : ℕ) → is_active (plan_of w) p ≡ true → Seated (with_store Afterwards w) p
      seated p a =
          let h = g.seated p a in
          let stays = other-file p a (free_no_password path p free) in
          record { found = still_found p a; same = stays ∙ h.same; formed = rw stays h.formed; user = rw stays h.user }
