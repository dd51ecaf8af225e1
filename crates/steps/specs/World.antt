-- A terminal with all that is lent to it, what can be asked of it, and what comes of it.
use Rattle.std.specs.Prelude.{Bool, List, [], ◌∷◌, ℕ}
use Rattle.terminal.specs.declared.Terminal.{Terminal}
use Rattle.terminal.specs.declared.Answer.{Answer}
use Rattle.terminal.specs.Terminal.{Outcome}
use Rattle.terminal.specs.DeviceCalls as devices
use Rattle.terminal.specs.MemoryCalls as memory
use Rattle.terminal.specs.AccountCalls as accounts
use Rattle.terminal.specs.StopCalls as stops
use Rattle.terminal.specs.Events as events

-- the terminal, the permission table, and the four areas
pub record World : Type 0 where
  pub terminal : Terminal
  pub permissions : List (List ℕ)
  pub store : List ℕ
  pub arena : List ℕ
  pub tables : List ℕ
  pub screens : List ℕ

-- a call with its arguments and lent buffers, or an event
pub data Move : Type 0 where
  ReadNext : (partition major minor request : ℕ) (buffer : List ℕ) → Move
  ReadRandom : (partition major minor offset request : ℕ) (buffer : List ℕ) → Move
  WriteNext : (partition major minor request : ℕ) (bytes : List ℕ) → Move
  WriteRandom : (partition major minor offset request : ℕ) (bytes : List ℕ) → Move
  Load : (partition selector offset : ℕ) (buffer : List ℕ) → Move
  Store : (partition selector offset : ℕ) (bytes : List ℕ) → Move
  Flush : (partition selector taken : ℕ) → Move
  Login : (partition : ℕ) (name password : List ℕ) → Move
  Who : (partition : ℕ) (buffer : List ℕ) → Move
  Logout : (partition : ℕ) → Move
  SetPassword : (partition : ℕ) (password : List ℕ) (taken : ℕ) → Move
  Shutdown : (partition : ℕ) (message : List ℕ) → Move
  Powerdown : (partition : ℕ) → Move
  Configuration : (partition : ℕ) (buffer : List ℕ) → Move
  Key : (byte : ℕ) → Move
  Attention : Move
  Fault : (partition device : ℕ) (set : Bool) → Move

-- what comes of a move: the number, the count, the buffer that it may fill (empty where it fills none), and the world afterwards
pub record Result : Type 0 where
  pub number : ℕ
  pub count : ℕ
  pub buffer : List ℕ
  pub world : World

-- ---- the world with one thing changed

abbrev pub with_terminal : Terminal → World → World
with_terminal t w = record { terminal = t; permissions = w.permissions; store = w.store; arena = w.arena; tables = w.tables; screens = w.screens }

abbrev pub with_permissions : List (List ℕ) → World → World
with_permissions rows w = record { terminal = w.terminal; permissions = rows; store = w.store; arena = w.arena; tables = w.tables; screens = w.screens }

abbrev pub with_screens : List ℕ → World → World
with_screens l w = record { terminal = w.terminal; permissions = w.permissions; store = w.store; arena = w.arena; tables = w.tables; screens = l }

abbrev pub with_arena : List ℕ → World → World
with_arena l w = record { terminal = w.terminal; permissions = w.permissions; store = w.store; arena = l; tables = w.tables; screens = w.screens }

abbrev pub with_store : List ℕ → World → World
with_store l w = record { terminal = w.terminal; permissions = w.permissions; store = l; arena = w.arena; tables = w.tables; screens = w.screens }

abbrev pub with_tables : List ℕ → World → World
with_tables l w = record { terminal = w.terminal; permissions = w.permissions; store = w.store; arena = w.arena; tables = l; screens = w.screens }

-- ---- a move's result

-- a call that fills a buffer, and one that fills none
unfoldable pub fills : World → Outcome → Result
fills w o = record { number = o.answer.number; count = o.answer.count; buffer = o.lent; world = with_terminal o.answer.terminal w }

unfoldable pub answers : World → Answer → Result
answers w a = record { number = a.number; count = a.count; buffer = []; world = with_terminal a.terminal w }

-- an event has no answer
unfoldable pub becomes : World → Terminal → Result
becomes w t = record { number = 0; count = 0; buffer = []; world = with_terminal t w }

unfoldable pub step : World → Move → Result
step w (ReadNext p major minor request buffer) = fills w (devices.read_next w.terminal p major minor request buffer)
step w (ReadRandom p major minor offset request buffer) = fills w (devices.read_random w.terminal p major minor offset request w.screens buffer)
step w (WriteNext p major minor request bytes) =
    let o = devices.write_next w.terminal p major minor request bytes w.screens in answers (with_screens o.lent w) o.answer
step w (WriteRandom p major minor offset request bytes) =
    let o = devices.write_random w.terminal p major minor offset request bytes w.screens in answers (with_screens o.lent w) o.answer
step w (Load p selector offset buffer) = fills w (memory.load w.terminal w.permissions p selector offset w.arena buffer)
step w (Store p selector offset bytes) =
    let o = memory.store w.terminal w.permissions p selector offset bytes w.arena in answers (with_arena o.lent w) o.answer
step w (Flush p selector taken) =
    let o = memory.flush w.terminal w.permissions p selector taken w.arena w.store in answers (with_store o.lent w) o.answer
step w (Login p name password) = answers w (accounts.login w.terminal p name password w.tables)
step w (Who p buffer) = fills w (accounts.who w.terminal p w.tables buffer)
step w (Logout p) = answers w (accounts.logout w.terminal p)
step w (SetPassword p password taken) =
    let o = accounts.set_password w.terminal p password taken w.store w.tables in
    answers (with_tables o.tables (with_store o.store w)) o.answer
step w (Shutdown p message) =
    let o = stops.shutdown w.terminal p message w.screens in answers (with_screens o.lent w) o.answer
step w (Powerdown p) =
    let o = stops.powerdown w.terminal p w.screens in answers (with_screens o.lent w) o.answer
step w (Configuration p buffer) = fills w (memory.configuration w.terminal w.permissions p w.store buffer)
step w (Key byte) = becomes w (events.key byte w.terminal)
step w Attention = becomes w (events.attention w.terminal)
step w (Fault p device set) = becomes w (events.fault p device set w.terminal)

-- ---- runs

-- what comes of each of a list of moves, "each call gets what the last one left"
unfoldable pub run : World → List Move → List Result
run w [] = []
run w (m ∷ ms) = step w m ∷ run (step w m).world ms

-- the world afterwards
unfoldable pub after : World → List Move → World
after w [] = w
after w (m ∷ ms) = after (step w m).world ms
