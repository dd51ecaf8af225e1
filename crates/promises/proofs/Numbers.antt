-- Demand 1: "A refusal gives its number from document 01". Which numbers 01 gives each move, that no move is answered another, and "Refused counts are 0, save
-- login's at AUTH_FAILURE".
use Rattle.std.specs.Prelude.{Bool, true, false, not, ◌||◌, List, [], ◌∷◌, ◌≢◌, ◌≡◌, refl, ℕ, eqb, ltb, length, Option, Some, None}
use Rattle.std.proofs.Common.{ap, subst, sym, ◌∙◌}
use Rattle.std.proofs.Math.Bool.{and-eq-true_iff}
use Rattle.std.proofs.lemmas.Bool.{false≢true}
use Rattle.octets.specs.Lists.{part}
use Rattle.octets.specs.Same.{same_bytes}
use Rattle.sha256.specs.Digest.{digest}
use Rattle.checks.specs.Checks.{Check, refused, after}
use Rattle.checks.specs.Settle.{settle, by_settle}
use Rattle.checks.specs.Told.{Told, told}
use Rattle.devices.specs.Choice.{by_cond}
use Rattle.state.specs.declared.LoginRecord.{LoginRecord}
use Rattle.guard.specs.Guard.{guard}
use Rattle.console.specs.DeviceChecks.{device_checks}
use Rattle.console.specs.ConsoleLaws.{read_next-answers, read_random-answers, write_next-answers, write_random-answers}
use Rattle.memory.specs.Memory.{load_checks, load, store_checks, store, flush_checks, flush}
use Rattle.database.specs.Database.{configuration}
use Rattle.passwords.specs.declared.Lookup.{Lookup}
use Rattle.passwords.specs.declared.Entry.{Entry}
use Rattle.passwords.specs.Account.{digest_length}
use Rattle.accounts.specs.declared.Attempt.{Attempt}
use Rattle.accounts.specs.Strings.{string_of}
use Rattle.accounts.specs.Login.{tried_entry, tried, login_checks, login}
use Rattle.accounts.specs.Who.{who_checks, who}
use Rattle.accounts.specs.SetPassword.{Changed, written, set_checks, set_password}
use Rattle.terminal.specs.declared.Terminal.{Terminal}
use Rattle.terminal.specs.declared.Answer.{Answer}
use Rattle.terminal.specs.Terminal.{Outcome, unmoved, partition_of, record_of, file_of, table_of, guard_of}
use Rattle.terminal.specs.DeviceCalls as devices
use Rattle.terminal.specs.MemoryCalls as memory
use Rattle.terminal.specs.AccountCalls as accounts
use Rattle.terminal.specs.StopCalls as stops
use Rattle.promises.specs.Refusals.{writes, device_refused}
use Rattle.steps.specs.World.{World, Move, fills, answers, becomes, step}
use Rattle.steps.specs.World.Move.{ReadNext, ReadRandom, WriteNext, WriteRandom, Load, Store, Flush, Login, Who, Logout, SetPassword, Shutdown, Powerdown, Configuration, Key, Attention, Fault}
use Rattle.promises.specs.Numbers.{common, numbers_of, among, within}

-- its number, where it is due
due-among : (known due : Bool) → (known || not due) ≡ true → due ≡ true → known ≡ true
due-among true due e d = refl
due-among false true e d = e
due-among false false e d = d

after-among : (l : List ℕ) (n : ℕ) (checks : List Check) → among 0 l ≡ true → among n l ≡ true → within l checks ≡ true → among (after n checks) l ≡ true
unfolding within after refused
after-among l n [] z h e = h
after-among l n (c ∷ checks) z h e =
    let both = (and-eq-true_iff (among c.number l || not c.due) (within l checks)).0 e in
    let next : among (refused n c.due c.number) l ≡ true =
    by_cond (λ (x : ℕ). among x l ≡ true) (eqb n 0)
    (λ t. by_cond (λ (x : ℕ). among x l ≡ true) c.due (λ d. due-among (among c.number l) c.due both.0 d) (λ d. z))
    (λ t. h) in
    after-among l (refused n c.due c.number) checks z next both.1

-- the common checks, and a call's behind them
pub guard-among : (more : List ℕ) (t : Terminal) (wrong : Bool) (p : ℕ) → among (guard_of t wrong p) (common more) ≡ true
unfolding guard_of guard among within
guard-among more t wrong p = after-among (common more) 0 _ refl refl refl

pub call-among : (more : List ℕ) (t : Terminal) (wrong : Bool) (p : ℕ) (checks : List Check) → within (common more) checks ≡ true
    → among (after (guard_of t wrong p) checks) (common more) ≡ true
unfolding among
call-among more t wrong p checks e = after-among (common more) (guard_of t wrong p) checks refl (guard-among more t wrong p) e

-- a number that is not one of them is not given
pub not_given : (l : List ℕ) (n k : ℕ) → among n l ≡ true → n ≡ k → among k l ≡ false → {A : Type 0} → A
not_given l n k h e f = absurd (false≢true (sym f ∙ subst (λ (x : ℕ). among x l ≡ true) e h))

-- ---- the calls

told-among : (l : List ℕ) (m : ℕ) (done lent : List ℕ) → among 0 l ≡ true → among m l ≡ true → among (settle m (told 0 done) (told m lent)).number l ≡ true
told-among l m done lent z h = by_settle (λ (o : Told). among o.number l ≡ true) m (λ e. z) (λ e. h)

writes-among : (l : List ℕ) (broken : Bool) → among 0 l ≡ true → among 203 l ≡ true → among (writes broken) l ≡ true
unfolding writes
writes-among l broken z h = by_cond (λ (n : ℕ). among n l ≡ true) broken (λ e. h) (λ e. z)

tried-among : (l : List ℕ) (r : LoginRecord) (table password : List ℕ) (at : Lookup) → among 0 l ≡ true → among 300 l ≡ true
    → among (tried r table password at).number l ≡ true
unfolding tried
tried-among l r table password at z h = go at.entry
  where
    go : (e : Option Entry) → among (tried_entry r table password at.count e).number l ≡ true
    go None = h
    go (Some a) = by_cond (λ (a : Attempt). among a.number l ≡ true) (same_bytes (digest password) (part a.digest digest_length table)) (λ e. z) (λ e. h)

shutdown-among : (t : Terminal) (p : ℕ) (message screens : List ℕ) → among (stops.shutdown t p message screens).answer.number (common []) ≡ true
unfolding stops.shutdown stops.stopped among
shutdown-among t p message screens = by_settle (λ (o : Outcome). among o.answer.number (common []) ≡ true) _ (λ e. refl) (λ e. guard-among [] t _ p)

powerdown-among : (t : Terminal) (p : ℕ) (screens : List ℕ) → among (stops.powerdown t p screens).answer.number (common []) ≡ true
unfolding stops.powerdown stops.switched_off among
powerdown-among t p screens =
    by_cond (λ (o : Outcome). among o.answer.number (common []) ≡ true) t.plan.soft
    (λ soft. by_settle (λ (o : Outcome). among o.answer.number (common []) ≡ true) _ (λ e. refl) (λ e. guard-among [] t _ p))
    (λ none. shutdown-among t p [] screens)

-- every move is answered one of its numbers
pub answer-known : (w : World) (m : Move) → among (step w m).number (numbers_of m) ≡ true
unfolding step fills answers becomes numbers_of among within unmoved writes devices.read_next devices.read_random devices.write_next devices.write_random devices.replied device_checks memory.load load load_checks memory.store store store_checks memory.flush flush flush_checks memory.configuration configuration accounts.login accounts.tried login login_checks accounts.who who who_checks accounts.logout accounts.set_password accounts.replaced set_password set_checks written
answer-known w (ReadNext p major minor request buffer) =
    ap (λ (n : ℕ). among n (common (204 ∷ 205 ∷ 214 ∷ 207 ∷ 206 ∷ []))) (read_next-answers _ (partition_of w.terminal p) p major minor request buffer).0
    ∙ call-among (204 ∷ 205 ∷ 214 ∷ 207 ∷ 206 ∷ []) w.terminal _ p _ refl
answer-known w (ReadRandom p major minor offset request buffer) =
    ap (λ (n : ℕ). among n (common (204 ∷ 208 ∷ 205 ∷ 209 ∷ 210 ∷ 214 ∷ 207 ∷ [])))
    (read_random-answers _ (partition_of w.terminal p) p major minor offset request w.screens buffer).0
    ∙ call-among (204 ∷ 208 ∷ 205 ∷ 209 ∷ 210 ∷ 214 ∷ 207 ∷ []) w.terminal _ p _ refl
answer-known w (WriteNext p major minor request bytes) =
    ap (λ (n : ℕ). among n (common (204 ∷ 205 ∷ 202 ∷ 214 ∷ 203 ∷ [])))
    (write_next-answers _ (partition_of w.terminal p) p major minor request bytes w.screens).0
    ∙ call-among (204 ∷ 205 ∷ 202 ∷ 214 ∷ 203 ∷ []) w.terminal _ p _ refl
answer-known w (WriteRandom p major minor offset request bytes) =
    ap (λ (n : ℕ). among n (common (204 ∷ 208 ∷ 205 ∷ 202 ∷ 209 ∷ 210 ∷ 214 ∷ 203 ∷ [])))
    (write_random-answers _ (partition_of w.terminal p) p major minor offset request bytes w.screens).0
    ∙ call-among (204 ∷ 208 ∷ 205 ∷ 202 ∷ 209 ∷ 210 ∷ 214 ∷ 203 ∷ []) w.terminal _ p _ refl
answer-known w (Load p selector offset buffer) =
    told-among (common (211 ∷ 209 ∷ [])) _ _ buffer refl (call-among (211 ∷ 209 ∷ []) w.terminal _ p _ refl)
answer-known w (Store p selector offset bytes) =
    told-among (common (211 ∷ 202 ∷ 209 ∷ [])) _ _ w.arena refl (call-among (211 ∷ 202 ∷ 209 ∷ []) w.terminal _ p _ refl)
answer-known w (Flush p selector taken) =
    by_settle (λ (o : Told). among o.number (common (211 ∷ 201 ∷ 202 ∷ 203 ∷ [])) ≡ true) _
    (λ e. writes-among (common (211 ∷ 201 ∷ 202 ∷ 203 ∷ [])) (ltb taken _) refl refl)
    (λ e. call-among (211 ∷ 201 ∷ 202 ∷ 203 ∷ []) w.terminal _ p _ refl)
answer-known w (Login p name password) =
    by_settle (λ (a : Attempt). among a.number (common (301 ∷ 302 ∷ 300 ∷ [])) ≡ true) _
    (λ e. tried-among (common (301 ∷ 302 ∷ 300 ∷ [])) (record_of w.terminal p) (table_of w.terminal p w.tables) (string_of password) _ refl refl)
    (λ e. call-among (301 ∷ 302 ∷ 300 ∷ []) w.terminal _ p _ refl)
answer-known w (Who p buffer) = told-among (common (214 ∷ [])) _ _ buffer refl (call-among (214 ∷ []) w.terminal _ p _ refl)
answer-known w (Logout p) =
    by_settle (λ (a : Answer). among a.number (common []) ≡ true) _ (λ e. refl) (λ e. guard-among [] w.terminal false p)
answer-known w (SetPassword p password taken) =
    by_settle (λ (c : Changed). among c.number (common (303 ∷ 302 ∷ 203 ∷ [])) ≡ true) _
    (λ e. writes-among (common (303 ∷ 302 ∷ 203 ∷ [])) (ltb taken (length (file_of w.terminal p w.store))) refl refl)
    (λ e. call-among (303 ∷ 302 ∷ 203 ∷ []) w.terminal _ p _ refl)
answer-known w (Shutdown p message) = shutdown-among w.terminal p message w.screens
answer-known w (Powerdown p) = powerdown-among w.terminal p w.screens
answer-known w (Configuration p buffer) = told-among (common (214 ∷ [])) _ _ buffer refl (call-among (214 ∷ []) w.terminal _ p _ refl)
answer-known w (Key byte) = refl
answer-known w Attention = refl
answer-known w (Fault p device set) = refl

-- ---- counts

tried-count : (r : LoginRecord) (table password : List ℕ) (at : Lookup) → (tried r table password at).number ≢ 0 → (tried r table password at).number ≢ 300
    → (tried r table password at).count ≡ 0
unfolding tried
tried-count r table password at = go at.entry
  where
    go : (e : Option Entry) → (tried_entry r table password at.count e).number ≢ 0 → (tried_entry r table password at.count e).number ≢ 300
        → (tried_entry r table password at.count e).count ≡ 0
    go None = λ h k. absurd (k refl)
    go (Some a) =
        by_cond (λ (a : Attempt). a.number ≢ 0 → a.number ≢ 300 → a.count ≡ 0) (same_bytes (digest password) (part a.digest digest_length table))
        (λ e h k. absurd (h refl))
        (λ e h k. absurd (k refl))

shutdown-count : (t : Terminal) (p : ℕ) (message screens : List ℕ) → (stops.shutdown t p message screens).answer.count ≡ 0
unfolding stops.shutdown stops.stopped
shutdown-count t p message screens = by_settle (λ (o : Outcome). o.answer.count ≡ 0) _ (λ e. refl) (λ e. refl)

powerdown-count : (t : Terminal) (p : ℕ) (screens : List ℕ) → (stops.powerdown t p screens).answer.count ≡ 0
unfolding stops.powerdown stops.switched_off
powerdown-count t p screens =
    by_cond (λ (o : Outcome). o.answer.count ≡ 0) t.plan.soft
    (λ soft. by_settle (λ (o : Outcome). o.answer.count ≡ 0) _ (λ e. refl) (λ e. refl))
    (λ none. shutdown-count t p [] screens)

count_of : Outcome → ℕ
count_of o = o.answer.count

-- "Refused counts are 0, save login's at AUTH_FAILURE"
pub refused-count : (w : World) (m : Move) → (step w m).number ≢ 0 → (step w m).number ≢ 300 → (step w m).count ≡ 0
unfolding step fills answers becomes unmoved count_of devices.read_next devices.read_random devices.write_next devices.write_random devices.replied memory.load memory.store memory.flush memory.configuration accounts.login accounts.tried login accounts.who accounts.logout accounts.set_password accounts.replaced
refused-count w (ReadNext p major minor request buffer) h k =
    ap count_of (device_refused w.terminal p _ buffer _ (read_next-answers _ (partition_of w.terminal p) p major minor request buffer) h)
refused-count w (ReadRandom p major minor offset request buffer) h k =
    ap count_of (device_refused w.terminal p _ buffer _ (read_random-answers _ (partition_of w.terminal p) p major minor offset request w.screens buffer) h)
refused-count w (WriteNext p major minor request bytes) h k =
    ap count_of (device_refused w.terminal p _ w.screens _ (write_next-answers _ (partition_of w.terminal p) p major minor request bytes w.screens) h)
refused-count w (WriteRandom p major minor offset request bytes) h k =
    ap count_of (device_refused w.terminal p _ w.screens _ (write_random-answers _ (partition_of w.terminal p) p major minor offset request bytes w.screens) h)
refused-count w (Load p selector offset buffer) h k = refl
refused-count w (Store p selector offset bytes) h k = refl
refused-count w (Flush p selector taken) h k = refl
refused-count w (Login p name password) h k =
    by_settle (λ (a : Attempt). a.number ≢ 0 → a.number ≢ 300 → a.count ≡ 0) _
    (λ e. tried-count (record_of w.terminal p) (table_of w.terminal p w.tables) (string_of password) _)
    (λ e h k. refl) h k
refused-count w (Who p buffer) h k = refl
refused-count w (Logout p) h k = by_settle (λ (a : Answer). a.count ≡ 0) _ (λ e. refl) (λ e. refl)
refused-count w (SetPassword p password taken) h k = refl
refused-count w (Shutdown p message) h k = shutdown-count w.terminal p message w.screens
refused-count w (Powerdown p) h k = powerdown-count w.terminal p w.screens
refused-count w (Configuration p buffer) h k = refl
refused-count w (Key byte) h k = refl
refused-count w Attention h k = refl
refused-count w (Fault p device set) h k = refl
