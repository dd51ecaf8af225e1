-- One turn of each measured call, by the terminal's own definitions. The scene is what start, or a login behind it, left; the call is made on
-- the terminal of the answer before it.
use Rattle.std.specs.Prelude.{List, ℕ}
use Rattle.terminal.specs.declared.Answer.{Answer}
use Rattle.terminal.specs.Terminal.{Outcome}
use Rattle.terminal.specs.Events.{key}
use Rattle.terminal.specs.DeviceCalls.{read_next, read_random, write_next, write_random}
use Rattle.terminal.specs.MemoryCalls.{load, store, flush, configuration}
use Rattle.terminal.specs.AccountCalls.{login, who, logout, Written, set_password}
use Rattle.terminal.specs.StopCalls.{shutdown, powerdown}
use Rattle.bench.specs.Scene.{Scene, opened_from}

abbrev pub start_turn : List ℕ → List ℕ → Scene → Scene
start_turn text store s = opened_from s.answer.terminal text store s.arena s.tables s.screens s.permissions

-- a key first, or there is nothing to read
abbrev pub read_next_turn : ℕ → ℕ → ℕ → Scene → Outcome → Outcome
read_next_turn p byte request s o = read_next (key byte o.answer.terminal) p 1 p request o.lent

abbrev pub read_random_turn : ℕ → ℕ → ℕ → Scene → Outcome → Outcome
read_random_turn p offset request s o = read_random o.answer.terminal p 2 p offset request s.screens o.lent

abbrev pub write_next_turn : ℕ → ℕ → List ℕ → Scene → Outcome → Outcome
write_next_turn p request bytes s o = write_next o.answer.terminal p 2 p request bytes o.lent

abbrev pub write_random_turn : ℕ → ℕ → ℕ → List ℕ → Scene → Outcome → Outcome
write_random_turn p offset request bytes s o = write_random o.answer.terminal p 2 p offset request bytes o.lent

abbrev pub load_turn : ℕ → ℕ → ℕ → Scene → Outcome → Outcome
load_turn p selector offset s o = load o.answer.terminal s.permissions p selector offset s.arena o.lent

abbrev pub store_turn : ℕ → ℕ → ℕ → List ℕ → Scene → Outcome → Outcome
store_turn p selector offset bytes s o = store o.answer.terminal s.permissions p selector offset bytes o.lent

abbrev pub flush_turn : ℕ → ℕ → ℕ → Scene → Outcome → Outcome
flush_turn p selector taken s o = flush o.answer.terminal s.permissions p selector taken s.arena o.lent

abbrev pub configuration_turn : ℕ → List ℕ → Scene → Outcome → Outcome
configuration_turn p store s o = configuration o.answer.terminal s.permissions p store o.lent

-- a logout first, or the login is refused by 301
abbrev pub login_turn : ℕ → List ℕ → List ℕ → Scene → Answer → Answer
login_turn p name password s a = login (logout a.terminal p).terminal p name password s.tables

abbrev pub logout_turn : ℕ → Scene → Answer → Answer
logout_turn p s a = logout a.terminal p

abbrev pub who_turn : ℕ → Scene → Outcome → Outcome
who_turn p s o = who o.answer.terminal p s.tables o.lent

abbrev pub set_password_turn : ℕ → List ℕ → ℕ → Scene → Written → Written
set_password_turn p password taken s w = set_password w.answer.terminal p password taken w.store w.tables

-- on the terminal as start left it each time, since a stopped one refuses
abbrev pub shutdown_turn : ℕ → List ℕ → Scene → Outcome → Outcome
shutdown_turn p message s o = shutdown s.answer.terminal p message o.lent

abbrev pub powerdown_turn : ℕ → Scene → Outcome → Outcome
powerdown_turn p s o = powerdown s.answer.terminal p o.lent
