-- What is measured: a terminal of eight partitions, all active, without soft power, as start leaves it.
use Rattle.std.specs.Prelude.{true, false, List, ℕ, replicate}
use Rattle.terminal.specs.declared.Terminal.{Terminal}
use Rattle.terminal.specs.declared.Answer.{Answer}
use Rattle.terminal.specs.Terminal.{never, answer}
use Rattle.terminal.specs.Start.{Start, start}
use Rattle.terminal.specs.AccountCalls.{login}

-- an answer, with the terminal in it, and what start wrote
pub record Scene : Type 0 where
  pub answer : Answer
  pub arena : List ℕ
  pub tables : List ℕ
  pub screens : List ℕ
  pub permissions : List (List ℕ)

abbrev pub scene : Answer → List ℕ → List ℕ → List ℕ → List (List ℕ) → Scene
scene a arena tables screens permissions = record { answer = a; arena = arena; tables = tables; screens = screens; permissions = permissions }

-- start's number as an answer that counts nothing
unfoldable pub after : Start → Scene
after s = scene (answer s.started.number 0 s.started.terminal) s.arena s.tables s.screens s.permissions

unfoldable pub opened_from : Terminal → List ℕ → List ℕ → List ℕ → List ℕ → List ℕ → List (List ℕ) → Scene
opened_from t text store arena tables screens permissions = after (start t 8 (replicate 8 true) false text store arena tables screens permissions)

unfoldable pub opened : List ℕ → List ℕ → List ℕ → List ℕ → List ℕ → List (List ℕ) → Scene
opened text store arena tables screens permissions = opened_from never text store arena tables screens permissions

-- the permission table before start
abbrev pub none : List (List ℕ)
none = replicate 32 (replicate 8 0)

-- the same scene behind a login
unfoldable pub logged_in : ℕ → List ℕ → List ℕ → Scene → Scene
logged_in p name password s = scene (login s.answer.terminal p name password s.tables) s.arena s.tables s.screens s.permissions

-- what a caller sees in the end: the last number and the areas, and, where the call writes one, the buffer or the store
pub record Seen : Type 0 where
  pub number : ℕ
  pub arena : List ℕ
  pub tables : List ℕ
  pub screens : List ℕ
  pub lent : List ℕ

abbrev pub seen : ℕ → List ℕ → List ℕ → List ℕ → List ℕ → Seen
seen n arena tables screens lent = record { number = n; arena = arena; tables = tables; screens = screens; lent = lent }
