-- Builds: what might stand in the definitions' place. A build says what comes of a move in a world.
use Rattle.std.specs.Prelude.{List, [], ◌∷◌, ◌≡◌, ℕ}
use Rattle.steps.specs.World.{World, Move, Result, step, run}
use Rattle.steps.specs.World.Move.{ReadNext, ReadRandom, WriteNext, WriteRandom, Load, Store, Flush, Login, Who, Logout, SetPassword, Shutdown, Powerdown, Configuration, Key, Attention, Fault}

abbrev pub Build : Type 0
Build = World → Move → Result

-- it does what the definitions say, in every world and for every move
abbrev pub Meets : Build → Type 0
Meets build = (w : World) (m : Move) → build w m ≡ step w m

-- the same of a build that is asked a list of moves at once
abbrev pub MeetsRuns : (World → List Move → List Result) → Type 0
MeetsRuns build = (w : World) (ms : List Move) → build w ms ≡ run w ms

-- the world after a list of moves
unfoldable pub after_by : Build → World → List Move → World
after_by build w [] = w
after_by build w (m ∷ ms) = after_by build (build w m).world ms

-- ---- builds that do what the definitions say, save for one kind of move

unfoldable pub save : (World → ℕ → List ℕ → List ℕ → Result) → (World → ℕ → List ℕ → Result) → (World → Result) → Build
save login shutdown attention w (ReadNext p major minor request buffer) = step w (ReadNext p major minor request buffer)
save login shutdown attention w (ReadRandom p major minor offset request buffer) = step w (ReadRandom p major minor offset request buffer)
save login shutdown attention w (WriteNext p major minor request bytes) = step w (WriteNext p major minor request bytes)
save login shutdown attention w (WriteRandom p major minor offset request bytes) = step w (WriteRandom p major minor offset request bytes)
save login shutdown attention w (Load p selector offset buffer) = step w (Load p selector offset buffer)
save login shutdown attention w (Store p selector offset bytes) = step w (Store p selector offset bytes)
save login shutdown attention w (Flush p selector taken) = step w (Flush p selector taken)
save login shutdown attention w (Login p name password) = login w p name password
save login shutdown attention w (Who p buffer) = step w (Who p buffer)
save login shutdown attention w (Logout p) = step w (Logout p)
save login shutdown attention w (SetPassword p password taken) = step w (SetPassword p password taken)
save login shutdown attention w (Shutdown p message) = shutdown w p message
save login shutdown attention w (Powerdown p) = step w (Powerdown p)
save login shutdown attention w (Configuration p buffer) = step w (Configuration p buffer)
save login shutdown attention w (Key byte) = step w (Key byte)
save login shutdown attention w Attention = attention w
save login shutdown attention w (Fault p device set) = step w (Fault p device set)

abbrev login_step : World → ℕ → List ℕ → List ℕ → Result
login_step w p name password = step w (Login p name password)

abbrev shutdown_step : World → ℕ → List ℕ → Result
shutdown_step w p message = step w (Shutdown p message)

abbrev attention_step : World → Result
attention_step w = step w Attention

unfoldable pub save_login : (World → ℕ → List ℕ → List ℕ → Result) → Build
save_login login = save login shutdown_step attention_step

unfoldable pub save_shutdown : (World → ℕ → List ℕ → Result) → Build
save_shutdown shutdown = save login_step shutdown attention_step

unfoldable pub save_attention : (World → Result) → Build
save_attention attention = save login_step shutdown_step attention

-- a name that opens them
unfoldable pub saving : ℕ
unfolding save save_login save_shutdown save_attention
saving = 0
