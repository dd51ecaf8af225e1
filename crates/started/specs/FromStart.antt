-- The demands on runs, said from an accepted start on: "In the demands a run of calls begins at an accepted start, each call gets what the last one left, and 216 then never
-- comes up, which is shown" (document 01, Calls).
use Rattle.std.specs.Prelude.{Bool, true, List, ◌≡◌, ℕ, length}
use Rattle.image.specs.Image.{spot}
use Rattle.state.specs.Parts.{is_active}
use Rattle.terminal.specs.declared.Terminal.{Terminal}
use Rattle.terminal.specs.Terminal.{file_of, table_of}
use Rattle.terminal.specs.Start.{start}
use Rattle.steps.specs.World.{World, Move, run, after}
use Rattle.good.specs.Good.{Good}
use Rattle.good.specs.Runs.{NeverBad, good-run, never_216_run, together, spots_stay, image-long}
use Rattle.started.specs.Start.{world_of, start-good}

module _ (t : Terminal) (count : ℕ) (active : List Bool) (soft : Bool) (text store arena tables screens : List ℕ) (permissions : List (List ℕ))
    (accepted : (start t count active soft text store arena tables screens permissions).started.number ≡ 0) where
  -- the world that the start leaves
  abbrev first : World
  first = world_of (start t count active soft text store arena tables screens permissions) store

  abbrev is_good : Good first
  is_good = start-good t count active soft text store arena tables screens permissions accepted

  pub all_good : (ms : List Move) → Good (after first ms)
  all_good ms = good-run first ms is_good

  pub never-bad-state : (ms : List Move) → NeverBad (run first ms)
  never-bad-state ms = never_216_run first ms is_good

  -- "After every call the password table in memory and the file on the store say the same" (document 00, demand 2)
  pub memory_is-store : (ms : List Move) (p : ℕ) → is_active first.terminal.plan p ≡ true
      → file_of (after first ms).terminal p (after first ms).store ≡ table_of (after first ms).terminal p (after first ms).tables
  memory_is-store ms p a = together first ms is_good p a

  -- "File sizes never change": every file's place and size, and the image's length, are those at start
  pub files_stay : (ms : List Move) (path : List ℕ) → spot path (after first ms).store ≡ spot path first.store
  files_stay ms path = spots_stay first ms is_good path

  pub image_stays_long : (ms : List Move) → length (after first ms).store ≡ length first.store
  image_stays_long ms = image-long first ms is_good
