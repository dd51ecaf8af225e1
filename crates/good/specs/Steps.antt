-- Every call and every event leaves a good world good.
use Rattle.steps.specs.World.{World, Move, ReadNext, ReadRandom, WriteNext, WriteRandom, Load, Store, Flush, Login, Who, Logout, SetPassword, Shutdown, Powerdown, Configuration, Key, Attention, Fault, step}
use Rattle.good.specs.Good.{Good}
use Rattle.good.specs.DeviceMoves.{good-read-next, good-read_random, good-write-next, good-write_random, good-shutdown, good-powerdown, good-key, good-attention, good-fault}
use Rattle.good.specs.MemoryMoves.{good-load, good-store, good-flush, good-configuration}
use Rattle.good.specs.AccountMoves.{good-login, good-who, good-logout}
use Rattle.good.specs.PasswordMoves.{good-set_password}

pub good-step : (w : World) (m : Move) → Good w → Good (step w m).world
good-step w (ReadNext p major minor request buffer) g = good-read-next w g p major minor request buffer
good-step w (ReadRandom p major minor offset request buffer) g = good-read_random w g p major minor offset request buffer
good-step w (WriteNext p major minor request bytes) g = good-write-next w g p major minor request bytes
good-step w (WriteRandom p major minor offset request bytes) g = good-write_random w g p major minor offset request bytes
good-step w (Load p selector offset buffer) g = good-load w g p selector offset buffer
good-step w (Store p selector offset bytes) g = good-store w g p selector offset bytes
good-step w (Flush p selector taken) g = good-flush w g p selector taken
good-step w (Login p name password) g = good-login w g p name password
good-step w (Who p buffer) g = good-who w g p buffer
good-step w (Logout p) g = good-logout w g p
good-step w (SetPassword p password taken) g = good-set_password w g p password taken
good-step w (Shutdown p message) g = good-shutdown w g p message
good-step w (Powerdown p) g = good-powerdown w g p
good-step w (Configuration p buffer) g = good-configuration w g p buffer
good-step w (Key byte) g = good-key w g byte
good-step w Attention g = good-attention w g
good-step w (Fault p device set) g = good-fault w g p device set
