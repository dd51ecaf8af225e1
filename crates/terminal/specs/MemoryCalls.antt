-- Load, Store, Flush and Configuration. The permission table comes beside the state; none of these changes the state.
use Rattle.std.specs.Prelude.{◌||◌, List, ℕ}
use Rattle.memory.specs.Rights.{reach}
use Rattle.memory.specs.Memory.{load as loaded, store as stored, flush as flushed}
use Rattle.database.specs.Database.{configuration as configured}
use Rattle.terminal.specs.declared.Terminal.{Terminal}
use Rattle.terminal.specs.Terminal.{Outcome, unmoved, guard_of, differs}

unfoldable pub load : Terminal → List (List ℕ) → ℕ → ℕ → ℕ → List ℕ → List ℕ → Outcome
load t permissions p selector offset arena buffer =
    unmoved t (loaded (guard_of t (differs arena t.plan.kept.arena) p) (reach t.plan permissions p selector) offset arena buffer)

unfoldable pub store : Terminal → List (List ℕ) → ℕ → ℕ → ℕ → List ℕ → List ℕ → Outcome
store t permissions p selector offset bytes arena =
    unmoved t (stored (guard_of t (differs arena t.plan.kept.arena) p) (reach t.plan permissions p selector) offset bytes arena)

unfoldable pub flush : Terminal → List (List ℕ) → ℕ → ℕ → ℕ → List ℕ → List ℕ → Outcome
flush t permissions p selector taken arena store =
    unmoved t (flushed (guard_of t (differs store t.plan.kept.store || differs arena t.plan.kept.arena) p) (reach t.plan permissions p selector) taken arena store)

unfoldable pub configuration : Terminal → List (List ℕ) → ℕ → List ℕ → List ℕ → Outcome
configuration t permissions p store buffer =
    unmoved t (configured (guard_of t (differs store t.plan.kept.store) p) t.plan permissions store p buffer)
