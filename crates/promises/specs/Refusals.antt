-- Demand 1: "A refusal gives its number from document 01, changes nothing, and writes to no buffer". Every number but 0 and 203 is a refusal; what 203 may
-- leave is told in WriteFailure.
use Rattle.std.specs.Prelude.{Bool, true, false, cond, List, [], ◌≢◌, ◌≡◌, refl, ℕ, ltb, length}
use Rattle.std.proofs.Common.{ap, ◌∙◌}
use Rattle.std.proofs.lemmas.List.{set-get_or}
use Rattle.octets.specs.Lists.{over, on_part, part}
use Rattle.octets.specs.OnPartLaws.{on_part-id}
use Rattle.octets.specs.WriteLaws.{over_self}
use Rattle.checks.specs.Settle.{settle, by_settle}
use Rattle.checks.specs.Told.{Told, told}
use Rattle.devices.specs.Choice.{by_cond}
use Rattle.state.specs.declared.LoginRecord.{LoginRecord}
use Rattle.state.specs.Parts.{part_at, with_part, with_login, seat_at}
use Rattle.console.specs.Console as console
use Rattle.console.specs.ConsoleLaws.{Answers, read_next-answers, read_random-answers, write_next-answers, write_random-answers}
use Rattle.memory.specs.declared.Reach.{Reach}
use Rattle.memory.specs.Memory.{load, store, flush}
use Rattle.database.specs.Database.{configuration}
use Rattle.accounts.specs.Who.{who}
use Rattle.accounts.specs.SetPassword.{Changed, set_password, written}
use Rattle.accounts.specs.AccountLaws.{login-keeps}
use Rattle.terminal.specs.declared.Terminal.{Terminal}
use Rattle.terminal.specs.declared.Answer.{Answer}
use Rattle.terminal.specs.Terminal.{Outcome, outcome, answer, unmoved, with_state, with_partition, partition_of, record_of, with_record, file_of, table_of}
use Rattle.terminal.specs.DeviceCalls as devices
use Rattle.terminal.specs.MemoryCalls as memory
use Rattle.terminal.specs.AccountCalls as accounts
use Rattle.terminal.specs.StopCalls as stops
use Rattle.steps.specs.World.{World, Move, fills, answers, becomes, step, with_terminal, with_screens}
use Rattle.steps.specs.World.Move.{ReadNext, ReadRandom, WriteNext, WriteRandom, Load, Store, Flush, Login, Who, Logout, SetPassword, Shutdown, Powerdown, Configuration, Key, Attention, Fault}

-- the buffer that a move lends to be filled; [] where it lends none
unfoldable pub buffer_of : Move → List ℕ
buffer_of (ReadNext p major minor request buffer) = buffer
buffer_of (ReadRandom p major minor offset request buffer) = buffer
buffer_of (WriteNext p major minor request bytes) = []
buffer_of (WriteRandom p major minor offset request bytes) = []
buffer_of (Load p selector offset buffer) = buffer
buffer_of (Store p selector offset bytes) = []
buffer_of (Flush p selector taken) = []
buffer_of (Login p name password) = []
buffer_of (Who p buffer) = buffer
buffer_of (Logout p) = []
buffer_of (SetPassword p password taken) = []
buffer_of (Shutdown p message) = []
buffer_of (Powerdown p) = []
buffer_of (Configuration p buffer) = buffer
buffer_of (Key byte) = []
buffer_of Attention = []
buffer_of (Fault p device set) = []

-- a move leaves the terminal, the permission table, the four areas and its buffer as they were
abbrev pub Unchanged : World → Move → Type 0
Unchanged w m = ((step w m).world ≡ w) × ((step w m).buffer ≡ buffer_of m)

-- ---- a partition put back as it was is no change

partition_back : (t : Terminal) (p : ℕ) → with_partition p (partition_of t p) t ≡ t
unfolding with_partition with_state partition_of part_at with_part
partition_back t p = rw (set-get_or t.state.partitions p _)

pub record_back : (t : Terminal) (p : ℕ) → with_record p (record_of t p) t ≡ t
unfolding with_record record_of with_login
record_back t p = partition_back t p

-- ---- the calls on devices

pub device_refused : (t : Terminal) (p m : ℕ) (lent : List ℕ) (o : console.Outcome) → Answers m (partition_of t p) lent o → o.reply.number ≢ 0
    → devices.replied t p o ≡ outcome (answer m 0 t) lent
unfolding devices.replied console.refusal
device_refused t p m lent o a h = rw (a.1 (λ e. h (a.0 ∙ e)), partition_back t p)

-- ---- the calls that tell a number and write one lent thing

told-refused : (m : ℕ) (done lent : List ℕ) → (settle m (told 0 done) (told m lent)).number ≢ 0 → (settle m (told 0 done) (told m lent)).lent ≡ lent
told-refused m done lent = by_settle (λ (o : Told). o.number ≢ 0 → o.lent ≡ lent) m (λ e h. absurd (h refl)) (λ e h. refl)

-- the number of a write to the store: 203 where it breaks off, and else 0
unfoldable pub writes : Bool → ℕ
writes broken = cond broken 203 0

-- no other
writes_else : (broken : Bool) → writes broken ≢ 0 → writes broken ≢ 203 → ⊥
unfolding writes
writes_else true h k = k refl
writes_else false h k = h refl

flush-refused : (n : ℕ) (r : Reach) (taken : ℕ) (arena store : List ℕ) → (flush n r taken arena store).number ≢ 0 → (flush n r taken arena store).number ≢ 203
    → (flush n r taken arena store).lent ≡ store
unfolding flush writes
flush-refused n r taken arena store =
    by_settle (λ (o : Told). o.number ≢ 0 → o.number ≢ 203 → o.lent ≡ store) _ (λ e h k. absurd (writes_else (ltb taken r.segment.memory.length) h k)) (λ e h k. refl)

-- ---- set-password

set-refused : (n : ℕ) (r : LoginRecord) (password : List ℕ) (taken : ℕ) (file table : List ℕ)
    → (set_password n r password taken file table).number ≢ 0 → (set_password n r password taken file table).number ≢ 203
    → ((set_password n r password taken file table).file ≡ file) × ((set_password n r password taken file table).table ≡ table)
unfolding set_password written writes
set-refused n r password taken file table =
    by_settle (λ (c : Changed). c.number ≢ 0 → c.number ≢ 203 → (c.file ≡ file) × (c.table ≡ table)) _
    (λ e h k. absurd (writes_else (ltb taken (length file)) h k))
    (λ e h k. (refl, refl))

-- a part laid over itself
pub part-back : (place n : ℕ) (new l : List ℕ) → new ≡ part place n l → on_part place n (over new) l ≡ l
part-back place n new l e = on_part-id place n (over new) l (ap (λ (x : List ℕ). over x (part place n l)) e ∙ over_self (part place n l))

-- ---- the calls that stop

shutdown-refused : (t : Terminal) (p : ℕ) (message screens : List ℕ) → (stops.shutdown t p message screens).answer.number ≢ 0
    → ((stops.shutdown t p message screens).answer.terminal ≡ t) × ((stops.shutdown t p message screens).lent ≡ screens)
unfolding stops.shutdown stops.stopped
shutdown-refused t p message screens =
    by_settle (λ (o : Outcome). o.answer.number ≢ 0 → (o.answer.terminal ≡ t) × (o.lent ≡ screens)) _ (λ e h. absurd (h refl)) (λ e h. (refl, refl))

powerdown-refused : (t : Terminal) (p : ℕ) (screens : List ℕ) → (stops.powerdown t p screens).answer.number ≢ 0
    → ((stops.powerdown t p screens).answer.terminal ≡ t) × ((stops.powerdown t p screens).lent ≡ screens)
unfolding stops.powerdown stops.switched_off
powerdown-refused t p screens =
    by_cond (λ (o : Outcome). o.answer.number ≢ 0 → (o.answer.terminal ≡ t) × (o.lent ≡ screens)) t.plan.soft
    (λ soft. by_settle (λ (o : Outcome). o.answer.number ≢ 0 → (o.answer.terminal ≡ t) × (o.lent ≡ screens)) _ (λ e h. absurd (h refl)) (λ e h. (refl, refl)))
    (λ none. shutdown-refused t p [] screens)

logout-refused : (t : Terminal) (p : ℕ) → (accounts.logout t p).number ≢ 0 → (accounts.logout t p).terminal ≡ t
unfolding accounts.logout
logout-refused t p = by_settle (λ (a : Answer). a.number ≢ 0 → a.terminal ≡ t) _ (λ e h. absurd (h refl)) (λ e h. refl)

-- ---- the demand

fills-unchanged : (w : World) (m : ℕ) (o : Outcome) (lent : List ℕ) → o ≡ outcome (answer m 0 w.terminal) lent
    → ((fills w o).world ≡ w) × ((fills w o).buffer ≡ lent)
unfolding fills
fills-unchanged w m o lent e = (ap (λ (x : Outcome). with_terminal x.answer.terminal w) e, ap (λ (x : Outcome). x.lent) e)

screens-unchanged : (w : World) (o : Outcome) → o.answer.terminal ≡ w.terminal → o.lent ≡ w.screens
    → ((answers (with_screens o.lent w) o.answer).world ≡ w) × ((answers (with_screens o.lent w) o.answer).buffer ≡ [])
unfolding answers
screens-unchanged w o e l = (rw (e, l), refl)

-- a write to a device that is answered anything but 0, 203 too, changes nothing
pub write-next-refused : (w : World) (p major minor request : ℕ) (bytes : List ℕ)
    → (step w (WriteNext p major minor request bytes)).number ≢ 0 → Unchanged w (WriteNext p major minor request bytes)
unfolding step answers buffer_of devices.write_next devices.replied
write-next-refused w p major minor request bytes h =
    let e = device_refused w.terminal p _ w.screens _ (write_next-answers _ (partition_of w.terminal p) p major minor request bytes w.screens) h in
    screens-unchanged w (devices.write_next w.terminal p major minor request bytes w.screens) (ap (λ (o : Outcome). o.answer.terminal) e) (ap (λ (o : Outcome). o.lent) e)

pub write_random_refused : (w : World) (p major minor offset request : ℕ) (bytes : List ℕ)
    → (step w (WriteRandom p major minor offset request bytes)).number ≢ 0 → Unchanged w (WriteRandom p major minor offset request bytes)
unfolding step answers buffer_of devices.write_random devices.replied
write_random_refused w p major minor offset request bytes h =
    let e = device_refused w.terminal p _ w.screens _ (write_random-answers _ (partition_of w.terminal p) p major minor offset request bytes w.screens) h in
    screens-unchanged w (devices.write_random w.terminal p major minor offset request bytes w.screens) (ap (λ (o : Outcome). o.answer.terminal) e) (ap (λ (o : Outcome). o.lent) e)

pub refusal-keeps : (w : World) (m : Move) → (step w m).number ≢ 0 → (step w m).number ≢ 203 → Unchanged w m
unfolding step fills answers becomes buffer_of unmoved devices.read_next devices.read_random devices.replied memory.load load memory.store store memory.flush memory.configuration configuration accounts.login accounts.tried accounts.who who accounts.set_password accounts.replaced file_of table_of
refusal-keeps w (ReadNext p major minor request buffer) h k =
    fills-unchanged w _ _ buffer (device_refused w.terminal p _ buffer _ (read_next-answers _ (partition_of w.terminal p) p major minor request buffer) h)
refusal-keeps w (ReadRandom p major minor offset request buffer) h k =
    fills-unchanged w _ _ buffer
    (device_refused w.terminal p _ buffer _ (read_random-answers _ (partition_of w.terminal p) p major minor offset request w.screens buffer) h)
refusal-keeps w (WriteNext p major minor request bytes) h k = write-next-refused w p major minor request bytes h
refusal-keeps w (WriteRandom p major minor offset request bytes) h k = write_random_refused w p major minor offset request bytes h
refusal-keeps w (Load p selector offset buffer) h k = (refl, told-refused _ _ buffer h)
refusal-keeps w (Store p selector offset bytes) h k = (rw (told-refused _ _ w.arena h), refl)
refusal-keeps w (Flush p selector taken) h k = (rw (flush-refused _ _ taken w.arena w.store h k), refl)
refusal-keeps w (Login p name password) h k =
    (rw (login-keeps _ (record_of w.terminal p) (table_of w.terminal p w.tables) name password h, record_back w.terminal p), refl)
refusal-keeps w (Who p buffer) h k = (refl, told-refused _ _ buffer h)
refusal-keeps w (Logout p) h k = (rw (logout-refused w.terminal p h), refl)
refusal-keeps w (SetPassword p password taken) h k =
    let seat = seat_at w.terminal.plan p in
    let e = set-refused _ (record_of w.terminal p) password taken (file_of w.terminal p w.store) (table_of w.terminal p w.tables) h k in
    (rw (part-back seat.file.place seat.file.length _ w.store e.0, part-back seat.table.place seat.table.length _ w.tables e.1), refl)
refusal-keeps w (Shutdown p message) h k =
    let e = shutdown-refused w.terminal p message w.screens h in screens-unchanged w (stops.shutdown w.terminal p message w.screens) e.0 e.1
refusal-keeps w (Powerdown p) h k =
    let e = powerdown-refused w.terminal p w.screens h in screens-unchanged w (stops.powerdown w.terminal p w.screens) e.0 e.1
refusal-keeps w (Configuration p buffer) h k = (refl, told-refused _ _ buffer h)
refusal-keeps w (Key byte) h k = absurd (h refl)
refusal-keeps w Attention h k = absurd (h refl)
refusal-keeps w (Fault p device set) h k = absurd (h refl)
