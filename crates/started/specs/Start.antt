-- An accepted start gives a good world; a refused one leaves everything as it was.
use Rattle.std.specs.Prelude.{Bool, List, ◌≡◌, refl, ℕ, ◌<◌}
use Rattle.std.proofs.Common.{ne_eqb}
use Rattle.checks.specs.Settle.{settle, by_settle}
use Rattle.setup.specs.declared.Setup.{Setup}
use Rattle.setup.specs.Reading.{permission_table}
use Rattle.state.specs.declared.Plan.{Plan}
use Rattle.state.specs.Parts.{segment_at}
use Rattle.terminal.specs.declared.Terminal.{Terminal}
use Rattle.terminal.specs.Start.{Start, begun_from, start}
use Rattle.steps.specs.World.{World, Move, after}
use Rattle.begin.specs.Planned.{planned, plan_of, first_state}
use Rattle.begin.specs.Start.{Beginning, beginning, refused, filled, carried_out}
use Rattle.begin.specs.Start.{start as begin}
use Rattle.good.specs.Good.{Mapped, SpansApart, Good}
use Rattle.good.specs.Runs.{plan_stays}
use Rattle.started.specs.Accepted.{Accepted, kept_of, setup_of, all_filled, accepted}
use Rattle.started.specs.Plan.{plan}
use Rattle.started.specs.Segments.{apart-at}
use Rattle.started.specs.FirstWorld.{Titled, world_from, mapped-titled, world-good}

-- the world that a start leaves; the store is only read
unfoldable pub world_of : Start → List ℕ → World
world_of b store =
    record {
      terminal = b.started.terminal;
      permissions = b.permissions;
      store = store;
      arena = b.arena;
      tables = b.tables;
      screens = b.screens;
    }

module _ (t : Terminal) (count : ℕ) (active : List Bool) (soft : Bool) (text store arena tables screens : List ℕ) (permissions : List (List ℕ)) where
  abbrev begun : Beginning
  begun = begin count active soft text store arena tables screens permissions

  -- the world before
  abbrev before : World
  before = record { terminal = t; permissions = permissions; store = store; arena = arena; tables = tables; screens = screens }

  world-begun : (s : Setup) (plan : Plan) (b : Beginning) → b ≡ filled plan (first_state s) (permission_table s) store arena tables screens
      → world_of (begun_from t b) store ≡ world_from plan s store arena tables screens
  unfolding world_of begun_from filled settle
  world-begun s plan b e = rw e

  -- what holds of the world of an accepted set-up holds of the world that start leaves
  by_world : (P : World → Type 0) → begun.number ≡ 0
      → ((s : Setup) → Accepted text store arena tables screens count active s
      → P (world_from (plan soft s text store (kept_of store arena tables screens)) s store arena tables screens))
      → P (world_of (begun_from t begun) store)
  unfolding plan_of
  by_world P z h =
      let s : Setup = setup_of count active text store in
      rw (world-begun s (plan soft s text store (kept_of store arena tables screens)) begun (all_filled count active soft text store arena tables screens permissions z))
      (h s (accepted count active soft text store arena tables screens permissions z))

  abbrev afterwards : World
  afterwards = world_of (start t count active soft text store arena tables screens permissions) store

  -- an accepted start gives a good world
  pub start-good : (start t count active soft text store arena tables screens permissions).started.number ≡ 0 → Good afterwards
  unfolding start begun_from
  start-good z = by_world Good z (λ s ok. world-good soft text store arena tables screens count active s ok)

  -- the path of a declared dseg stands in the store right before its file, at the kept place
  pub started-titled : (start t count active soft text store arena tables screens permissions).started.number ≡ 0
      → (row : ℕ) → row < afterwards.terminal.plan.dsegs → (m : Mapped afterwards row) × Titled afterwards.terminal.plan row m.path store
  unfolding start begun_from planned
  started-titled z =
      by_world (λ (w : World). (row : ℕ) → row < w.terminal.plan.dsegs → (m : Mapped w row) × Titled w.terminal.plan row m.path store) z
      (λ s ok. mapped-titled soft text store arena tables screens count active s ok)

  -- no two segments share a byte of the arena, at start and after any run
  pub started-apart : (start t count active soft text store arena tables screens permissions).started.number ≡ 0
      → (i j : ℕ) → (i ≡ j → ⊥) → SpansApart (segment_at afterwards.terminal.plan i).memory (segment_at afterwards.terminal.plan j).memory
  unfolding start begun_from
  started-apart z =
      by_world (λ (w : World). (i j : ℕ) → (i ≡ j → ⊥) → SpansApart (segment_at w.terminal.plan i).memory (segment_at w.terminal.plan j).memory) z
      (λ s ok. apart-at soft text store (kept_of store arena tables screens) count active s ok.set_up)

  pub segments_apart : (start t count active soft text store arena tables screens permissions).started.number ≡ 0
      → (ms : List Move) (i j : ℕ) → (i ≡ j → ⊥)
      → SpansApart (segment_at (after afterwards ms).terminal.plan i).memory (segment_at (after afterwards ms).terminal.plan j).memory
  segments_apart z ms i j differ = rw (plan_stays afterwards ms) (started-apart z i j differ)

  refused-same : (n line : ℕ) → (n ≡ 0 → ⊥) → world_of (begun_from t (beginning (refused n line) arena tables screens permissions)) store ≡ before
  unfolding world_of begun_from settle
  refused-same n line z = rw (ne_eqb n 0 z)

  -- "A refused start changes no lent byte and hands back the state given."
  pub start-refused : ((start t count active soft text store arena tables screens permissions).started.number ≡ 0 → ⊥) → afterwards ≡ before
  unfolding start begin carried_out begun_from filled
  start-refused =
      by_settle (λ (b : Beginning). ((begun_from t b).started.number ≡ 0 → ⊥) → world_of (begun_from t b) store ≡ before) _
      (λ e z. absurd (z refl))
      (λ e z. refused-same _ _ e)
