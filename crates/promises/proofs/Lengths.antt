-- What no move and no run changes: the plan that start fixed, the permission table, how many partitions there are, and how long each area and buffer is.
use Rattle.std.specs.Prelude.{Bool, ◌&&◌, List, [], ◌∷◌, ◌≡◌, refl, ℕ, length}
use Rattle.std.proofs.Common.{◌∙◌, length-set}
use Rattle.octets.specs.Lists.{over}
use Rattle.octets.specs.OnPartLaws.{length-on_part}
use Rattle.octets.specs.WriteLaws.{length_over}
use Rattle.checks.specs.Settle.{by_settle}
use Rattle.devices.specs.Choice.{by_cond}
use Rattle.state.specs.declared.LoginRecord.{LoginRecord}
use Rattle.state.specs.declared.Partition.{Partition}
use Rattle.state.specs.declared.Plan.{Plan}
use Rattle.state.specs.declared.State.{State}
use Rattle.state.specs.Parts.{is_active, seat_at, with_part, with_focus, with_stop}
use Rattle.guard.specs.Events as events
use Rattle.console.specs.ConsoleLaws.{length-read_next, length-read_random, length-write_next, length-write_random, length-halt}
use Rattle.memory.specs.MemoryLaws.{length-load, length-store, length-flush}
use Rattle.database.specs.DatabaseLaws.{length-configuration}
use Rattle.accounts.specs.AccountLaws.{who-length}
use Rattle.terminal.specs.declared.Terminal.{Terminal}
use Rattle.terminal.specs.declared.Answer.{Answer}
use Rattle.terminal.specs.Terminal.{Outcome, unmoved, with_state, with_partition, partition_of, record_of, with_record, table_of}
use Rattle.terminal.specs.DeviceCalls as devices
use Rattle.terminal.specs.MemoryCalls as memory
use Rattle.terminal.specs.AccountCalls as accounts
use Rattle.terminal.specs.StopCalls as stops
use Rattle.terminal.specs.Events as moved
use Rattle.promises.specs.Refusals.{buffer_of}
use Rattle.steps.specs.World.{World, Move, fills, answers, becomes, step, after, with_terminal, with_screens}
use Rattle.steps.specs.World.Move.{ReadNext, ReadRandom, WriteNext, WriteRandom, Load, Store, Flush, Login, Who, Logout, SetPassword, Shutdown, Powerdown, Configuration, Key, Attention, Fault}
use Rattle.promises.specs.Lengths.{SamePlan, SameFrame}

-- ---- the terminal

same : (t : Terminal) → SamePlan t t
same t = record { plan = refl; partitions = refl }

partition_put : (t : Terminal) (p : ℕ) (x : Partition) → SamePlan t (with_partition p x t)
unfolding with_partition with_state with_part
partition_put t p x = record { plan = refl; partitions = length-set t.state.partitions p x }

record_put : (t : Terminal) (p : ℕ) (r : LoginRecord) → SamePlan t (with_record p r t)
unfolding with_record
record_put t p r = partition_put t p _

-- an event
state-put : (t : Terminal) (s : State) → length s.partitions ≡ length t.state.partitions → SamePlan t (with_state s t)
unfolding with_state
state-put t s e = record { plan = refl; partitions = e }

key-partitions : (byte : ℕ) (plan : Plan) (s : State) → length (events.key byte plan s).partitions ≡ length s.partitions
unfolding events.key with_part
key-partitions byte plan s =
    by_cond (λ (x : State). length x.partitions ≡ length s.partitions) (events.running plan s) (λ e. length-set s.partitions s.focus _) (λ e. refl)

attention-partitions : (plan : Plan) (s : State) → length (events.attention plan s).partitions ≡ length s.partitions
unfolding events.attention with_focus
attention-partitions plan s = by_cond (λ (x : State). length x.partitions ≡ length s.partitions) (events.running plan s) (λ e. refl) (λ e. refl)

fault-partitions : (p device : ℕ) (flag : Bool) (plan : Plan) (s : State) → length (events.fault p device flag plan s).partitions ≡ length s.partitions
unfolding events.fault with_part
fault-partitions p device flag plan s =
    by_cond (λ (x : State). length x.partitions ≡ length s.partitions) (events.running plan s && is_active plan p) (λ e. length-set s.partitions p _) (λ e. refl)

-- ---- the calls that stop

record Stops (t : Terminal) (screens : List ℕ) (o : Outcome) : Type 0 where
  pub plan : SamePlan t o.answer.terminal
  pub long : length o.lent ≡ length screens

shutdown_frame : (t : Terminal) (p : ℕ) (message screens : List ℕ) → Stops t screens (stops.shutdown t p message screens)
unfolding stops.shutdown stops.stopped with_stop with_part
shutdown_frame t p message screens =
    by_settle (Stops t screens) _
    (λ e. record { plan = state-put t _ (length-set t.state.partitions p _); long = length-halt message p (partition_of t p) screens })
    (λ e. record { plan = same t; long = refl })

powerdown_frame : (t : Terminal) (p : ℕ) (screens : List ℕ) → Stops t screens (stops.powerdown t p screens)
unfolding stops.powerdown stops.switched_off with_stop
powerdown_frame t p screens =
    by_cond (Stops t screens) t.plan.soft
    (λ soft. by_settle (Stops t screens) _ (λ e. record { plan = state-put t _ refl; long = refl }) (λ e. record { plan = same t; long = refl }))
    (λ none. shutdown_frame t p [] screens)

logout_frame : (t : Terminal) (p : ℕ) → SamePlan t (accounts.logout t p).terminal
unfolding accounts.logout
logout_frame t p = by_settle (λ (a : Answer). SamePlan t a.terminal) _ (λ e. record_put t p _) (λ e. same t)

-- ---- a move

terminal-moved : (w : World) (t : Terminal) → SamePlan w.terminal t → SameFrame w (with_terminal t w)
terminal-moved w t e = record { terminal = e; permissions = refl; store = refl; arena = refl; tables = refl; screens = refl }

screens-moved : (w : World) (t : Terminal) (l : List ℕ) → SamePlan w.terminal t → length l ≡ length w.screens → SameFrame w (with_terminal t (with_screens l w))
screens-moved w t l e long = record { terminal = e; permissions = refl; store = refl; arena = refl; tables = refl; screens = long }

-- every move keeps the plan, the permission table and the lengths
pub step-keeps_frame : (w : World) (m : Move) → SameFrame w (step w m).world
unfolding step fills answers becomes unmoved devices.read_next devices.read_random devices.write_next devices.write_random devices.replied memory.load memory.store memory.flush memory.configuration accounts.login accounts.tried accounts.who accounts.set_password accounts.replaced moved.key moved.attention moved.fault
step-keeps_frame w (ReadNext p major minor request buffer) = terminal-moved w _ (partition_put w.terminal p _)
step-keeps_frame w (ReadRandom p major minor offset request buffer) = terminal-moved w _ (partition_put w.terminal p _)
step-keeps_frame w (WriteNext p major minor request bytes) =
    screens-moved w _ _ (partition_put w.terminal p _) (length-write_next _ (partition_of w.terminal p) p major minor request bytes w.screens)
step-keeps_frame w (WriteRandom p major minor offset request bytes) =
    screens-moved w _ _ (partition_put w.terminal p _) (length-write_random _ (partition_of w.terminal p) p major minor offset request bytes w.screens)
step-keeps_frame w (Load p selector offset buffer) = terminal-moved w _ (same w.terminal)
step-keeps_frame w (Store p selector offset bytes) =
    record { terminal = same w.terminal; permissions = refl; store = refl; arena = length-store _ _ offset bytes w.arena; tables = refl; screens = refl }
step-keeps_frame w (Flush p selector taken) =
    record { terminal = same w.terminal; permissions = refl; store = length-flush _ _ taken w.arena w.store; arena = refl; tables = refl; screens = refl }
step-keeps_frame w (Login p name password) = terminal-moved w _ (record_put w.terminal p _)
step-keeps_frame w (Who p buffer) = terminal-moved w _ (same w.terminal)
step-keeps_frame w (Logout p) = terminal-moved w _ (logout_frame w.terminal p)
step-keeps_frame w (SetPassword p password taken) =
    let seat = seat_at w.terminal.plan p in
    record {
      terminal = same w.terminal;
      permissions = refl;
      store = length-on_part (over _) (length_over _) seat.file.place seat.file.length w.store;
      arena = refl;
      tables = length-on_part (over _) (length_over _) seat.table.place seat.table.length w.tables;
      screens = refl;
    }
step-keeps_frame w (Shutdown p message) = let s = shutdown_frame w.terminal p message w.screens in screens-moved w _ _ s.plan s.long
step-keeps_frame w (Powerdown p) = let s = powerdown_frame w.terminal p w.screens in screens-moved w _ _ s.plan s.long
step-keeps_frame w (Configuration p buffer) = terminal-moved w _ (same w.terminal)
step-keeps_frame w (Key byte) = terminal-moved w _ (state-put w.terminal _ (key-partitions byte w.terminal.plan w.terminal.state))
step-keeps_frame w Attention = terminal-moved w _ (state-put w.terminal _ (attention-partitions w.terminal.plan w.terminal.state))
step-keeps_frame w (Fault p device set) =
    terminal-moved w _ (state-put w.terminal _ (fault-partitions p device set w.terminal.plan w.terminal.state))

-- and the length of the buffer that it is lent
pub step-keeps-buffer-length : (w : World) (m : Move) → length (step w m).buffer ≡ length (buffer_of m)
unfolding step fills answers becomes buffer_of unmoved devices.read_next devices.read_random devices.replied memory.load memory.configuration accounts.who
step-keeps-buffer-length w (ReadNext p major minor request buffer) = length-read_next _ (partition_of w.terminal p) p major minor request buffer
step-keeps-buffer-length w (ReadRandom p major minor offset request buffer) =
    length-read_random _ (partition_of w.terminal p) p major minor offset request w.screens buffer
step-keeps-buffer-length w (WriteNext p major minor request bytes) = refl
step-keeps-buffer-length w (WriteRandom p major minor offset request bytes) = refl
step-keeps-buffer-length w (Load p selector offset buffer) = length-load _ _ offset w.arena buffer
step-keeps-buffer-length w (Store p selector offset bytes) = refl
step-keeps-buffer-length w (Flush p selector taken) = refl
step-keeps-buffer-length w (Login p name password) = refl
step-keeps-buffer-length w (Who p buffer) = who-length _ (record_of w.terminal p) (table_of w.terminal p w.tables) buffer
step-keeps-buffer-length w (Logout p) = refl
step-keeps-buffer-length w (SetPassword p password taken) = refl
step-keeps-buffer-length w (Shutdown p message) = refl
step-keeps-buffer-length w (Powerdown p) = refl
step-keeps-buffer-length w (Configuration p buffer) = length-configuration _ w.terminal.plan w.permissions w.store p buffer
step-keeps-buffer-length w (Key byte) = refl
step-keeps-buffer-length w Attention = refl
step-keeps-buffer-length w (Fault p device set) = refl

-- ---- a run

frame_same : (w : World) → SameFrame w w
frame_same w = terminal-moved w w.terminal (same w.terminal)

frame_trans : {a b c : World} → SameFrame a b → SameFrame b c → SameFrame a c
frame_trans x y =
    record {
      terminal = record { plan = y.terminal.plan ∙ x.terminal.plan; partitions = y.terminal.partitions ∙ x.terminal.partitions };
      permissions = y.permissions ∙ x.permissions;
      store = y.store ∙ x.store;
      arena = y.arena ∙ x.arena;
      tables = y.tables ∙ x.tables;
      screens = y.screens ∙ x.screens;
    }

-- so does every run
pub run-keeps_frame : (w : World) (moves : List Move) → SameFrame w (after w moves)
unfolding after
run-keeps_frame w [] = frame_same w
run-keeps_frame w (m ∷ moves) = frame_trans (step-keeps_frame w m) (run-keeps_frame (step w m).world moves)
