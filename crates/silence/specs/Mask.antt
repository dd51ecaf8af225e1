-- Demand 3: "Everything is the same in both but that file on the store and in memory, that partition's login record, its answers to login, who and
-- set-password, and the buffer who fills." What is blanked here is what may differ; what is seen through the mask is everything else.
use Rattle.std.specs.Prelude.{Bool, false, cond, List, ℕ, eqb}
use Rattle.octets.specs.Lists.{on_part}
use Rattle.state.specs.declared.LoginRecord.{LoginRecord}
use Rattle.state.specs.declared.Plan.{Plan}
use Rattle.state.specs.Empty.{nobody}
use Rattle.state.specs.Parts.{seat_at}
use Rattle.passwords.specs.PasswordFile.{mask_digests}
use Rattle.terminal.specs.declared.Terminal.{Terminal}
use Rattle.terminal.specs.Terminal.{record_of, with_record}
use Rattle.steps.specs.World.{World, Move, Result}
use Rattle.steps.specs.World.Move.{ReadNext, ReadRandom, WriteNext, WriteRandom, Load, Store, Flush, Login, Who, Logout, SetPassword, Shutdown, Powerdown, Configuration, Key, Attention, Fault}

-- a login record, blanked unless it is kept
unfoldable pub seen : Bool → LoginRecord → LoginRecord
seen kept r = cond kept r nobody

-- the terminal with partition q's login record blanked unless it is kept
unfoldable pub mask_terminal : Bool → ℕ → Terminal → Terminal
mask_terminal kept q t = with_record q (seen kept (record_of t q)) t

-- a store and a table area with partition q's digests blanked
abbrev pub mask_store : ℕ → Plan → List ℕ → List ℕ
mask_store q plan store = on_part (seat_at plan q).file.place (seat_at plan q).file.length mask_digests store

abbrev pub mask_tables : ℕ → Plan → List ℕ → List ℕ
mask_tables q plan tables = on_part (seat_at plan q).table.place (seat_at plan q).table.length mask_digests tables

-- the world with partition q's digests blanked, on the store and in memory, and its login record blanked unless it is kept
unfoldable pub mask : Bool → ℕ → World → World
mask kept q w =
    record {
      terminal = mask_terminal kept q w.terminal;
      permissions = w.permissions;
      store = mask_store q w.terminal.plan w.store;
      arena = w.arena;
      tables = mask_tables q w.terminal.plan w.tables;
      screens = w.screens;
    }

-- q's own login, who and set-password: the moves whose answers may differ
unfoldable pub own : ℕ → Move → Bool
own q (ReadNext p major minor request buffer) = false
own q (ReadRandom p major minor offset request buffer) = false
own q (WriteNext p major minor request bytes) = false
own q (WriteRandom p major minor offset request bytes) = false
own q (Load p selector offset buffer) = false
own q (Store p selector offset bytes) = false
own q (Flush p selector taken) = false
own q (Login p name password) = eqb p q
own q (Who p buffer) = eqb p q
own q (Logout p) = false
own q (SetPassword p password taken) = eqb p q
own q (Shutdown p message) = false
own q (Powerdown p) = false
own q (Configuration p buffer) = false
own q (Key byte) = false
own q Attention = false
own q (Fault p device set) = false

-- a result behind the mask: its number, its count and its buffer are seen, and its world is masked
unfoldable pub mask_result : Bool → ℕ → Result → Result
mask_result kept q r = record { number = r.number; count = r.count; buffer = r.buffer; world = mask kept q r.world }
