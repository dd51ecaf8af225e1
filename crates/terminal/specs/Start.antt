-- Start as a call on a terminal: "A refused start changes no lent byte and hands back the state given."
use Rattle.std.specs.Prelude.{Bool, List, ℕ}
use Rattle.checks.specs.Settle.{settle}
use Rattle.begin.specs.Start.{Beginning, start as begun}
use Rattle.terminal.specs.declared.Terminal.{Terminal}
use Rattle.terminal.specs.declared.Started.{Started}

-- an answer, and everything that start may write
pub record Start : Type 0 where
  pub started : Started
  pub arena : List ℕ
  pub tables : List ℕ
  pub screens : List ℕ
  pub permissions : List (List ℕ)

abbrev pub start_of : Started → List ℕ → List ℕ → List ℕ → List (List ℕ) → Start
start_of s arena tables screens permissions = record { started = s; arena = arena; tables = tables; screens = screens; permissions = permissions }

-- the new terminal, or the one that was given
unfoldable pub begun_from : Terminal → Beginning → Start
begun_from t b =
    start_of (record { number = b.number; line = b.line; terminal = settle b.number (record { plan = b.plan; state = b.state }) t })
    b.arena b.tables b.screens b.permissions

unfoldable pub start : Terminal → ℕ → List Bool → Bool → List ℕ → List ℕ → List ℕ → List ℕ → List ℕ → List (List ℕ) → Start
start t count active soft text store arena tables screens permissions =
    begun_from t (begun count active soft text store arena tables screens permissions)
