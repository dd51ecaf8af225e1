-- No call in a good world answers 216, BAD_STATE.
use Rattle.std.specs.Prelude.{Bool, cond, List, [], ◌≡◌, refl, ℕ, ltb, length, false, Option, Some, None}
use Rattle.octets.specs.Lists.{part}
use Rattle.octets.specs.Same.{same_bytes}
use Rattle.sha256.specs.Digest.{digest}
use Rattle.checks.specs.Settle.{by_settle}
use Rattle.checks.specs.Told.{Told}
use Rattle.devices.specs.Choice.{by_cond}
use Rattle.passwords.specs.declared.Lookup.{Lookup}
use Rattle.passwords.specs.declared.Entry.{Entry}
use Rattle.passwords.specs.Account.{digest_length}
use Rattle.passwords.specs.PasswordFile.{find}
use Rattle.state.specs.declared.LoginRecord.{LoginRecord}
use Rattle.console.specs.DeviceChecks.{device_checks}
use Rattle.console.specs.ConsoleLaws.{read_next-answers, read_random-answers, write_next-answers, write_random-answers}
use Rattle.memory.specs.Rights.{reach}
use Rattle.memory.specs.Memory.{load_checks, load, store_checks, store, flush_checks, flush}
use Rattle.database.specs.Database.{configuration}
use Rattle.accounts.specs.declared.Attempt.{Attempt}
use Rattle.accounts.specs.Strings.{string_of}
use Rattle.accounts.specs.Login.{tried_entry, tried, login_checks, login}
use Rattle.accounts.specs.Who.{who_checks, who}
use Rattle.accounts.specs.SetPassword.{Changed, written, set_checks, set_password}
use Rattle.terminal.specs.declared.Answer.{Answer}
use Rattle.terminal.specs.Terminal.{Outcome, unmoved, partition_of, record_of, table_of, file_of}
use Rattle.terminal.specs.DeviceCalls as devices
use Rattle.terminal.specs.MemoryCalls as memory
use Rattle.terminal.specs.AccountCalls as accounts
use Rattle.terminal.specs.StopCalls as stops
use Rattle.steps.specs.World.{World, Move, ReadNext, ReadRandom, WriteNext, WriteRandom, Load, Store, Flush, Login, Who, Logout, SetPassword, Shutdown, Powerdown, Configuration, Key, Attention, Fault, fills, answers, becomes, step}
use Rattle.good.specs.Good.{plan_of, Good}
use Rattle.good.specs.Numbers.{Other, seen, others, after-other, passed, store-fits, arena-fits, screens-fit, tables-fit}

-- a login that goes on to the table
tried_other : (r : LoginRecord) (table password : List ℕ) (at : Lookup) → Other (tried r table password at).number
unfolding tried
tried_other r table password at = go at.entry
  where
    go : (e : Option Entry) → Other (tried_entry r table password at.count e).number
    go None = seen 300 refl
    go (Some a) =
        by_cond (λ (a : Attempt). Other a.number) (same_bytes (digest password) (part a.digest digest_length table)) (λ e. seen 0 refl) (λ e. seen 300 refl)

-- a write to the store that may break off
broken-other : (t : Bool) → Other (cond t 203 0)
broken-other t = by_cond Other t (λ e. seen 203 refl) (λ e. seen 0 refl)

module _ (w : World) (g : Good w) where
  read-next-other : (p major minor request : ℕ) (buffer : List ℕ) → Other (step w (ReadNext p major minor request buffer)).number
  unfolding step fills devices.read_next devices.replied device_checks others
  read-next-other p major minor request buffer =
      rw (read_next-answers _ (partition_of w.terminal p) p major minor request buffer).0 (after-other _ _ (passed w g false p refl) refl)

  read_random_other : (p major minor offset request : ℕ) (buffer : List ℕ) → Other (step w (ReadRandom p major minor offset request buffer)).number
  unfolding step fills devices.read_random devices.replied device_checks others
  read_random_other p major minor offset request buffer =
      rw (read_random-answers _ (partition_of w.terminal p) p major minor offset request w.screens buffer).0 (after-other _ _ (passed w g _ p (screens-fit w g)) refl)

  write-next-other : (p major minor request : ℕ) (bytes : List ℕ) → Other (step w (WriteNext p major minor request bytes)).number
  unfolding step answers devices.write_next devices.replied device_checks others
  write-next-other p major minor request bytes =
      rw (write_next-answers _ (partition_of w.terminal p) p major minor request bytes w.screens).0 (after-other _ _ (passed w g _ p (screens-fit w g)) refl)

  write_random_other : (p major minor offset request : ℕ) (bytes : List ℕ) → Other (step w (WriteRandom p major minor offset request bytes)).number
  unfolding step answers devices.write_random devices.replied device_checks others
  write_random_other p major minor offset request bytes =
      rw (write_random-answers _ (partition_of w.terminal p) p major minor offset request bytes w.screens).0 (after-other _ _ (passed w g _ p (screens-fit w g)) refl)

  load-other : (p selector offset : ℕ) (buffer : List ℕ) → Other (step w (Load p selector offset buffer)).number
  unfolding step fills memory.load unmoved load load_checks others
  load-other p selector offset buffer =
      by_settle (λ (o : Told). Other o.number) _ (λ e. seen 0 refl) (λ e. after-other _ _ (passed w g _ p (arena-fits w g)) refl)

  store_other : (p selector offset : ℕ) (bytes : List ℕ) → Other (step w (Store p selector offset bytes)).number
  unfolding step answers memory.store unmoved store store_checks others
  store_other p selector offset bytes =
      by_settle (λ (o : Told). Other o.number) _ (λ e. seen 0 refl) (λ e. after-other _ _ (passed w g _ p (arena-fits w g)) refl)

  flush-other : (p selector taken : ℕ) → Other (step w (Flush p selector taken)).number
  unfolding step answers memory.flush unmoved flush flush_checks others
  flush-other p selector taken =
      by_settle (λ (o : Told). Other o.number) _ (λ e. broken-other (ltb taken (reach (plan_of w) w.permissions p selector).segment.memory.length))
      (λ e. after-other _ _ (passed w g _ p (rw (store-fits w g, arena-fits w g))) refl)

  configuration-other : (p : ℕ) (buffer : List ℕ) → Other (step w (Configuration p buffer)).number
  unfolding step fills memory.configuration unmoved configuration others
  configuration-other p buffer =
      by_settle (λ (o : Told). Other o.number) _ (λ e. seen 0 refl) (λ e. after-other _ _ (passed w g _ p (store-fits w g)) refl)

  login-other : (p : ℕ) (name password : List ℕ) → Other (step w (Login p name password)).number
  unfolding step answers accounts.login accounts.tried login login_checks others
  login-other p name password =
      by_settle (λ (a : Attempt). Other a.number) _
      (λ e. tried_other (record_of w.terminal p) (table_of w.terminal p w.tables) (string_of password) (find (string_of name) (table_of w.terminal p w.tables)))
      (λ e. after-other _ _ (passed w g _ p (tables-fit w g p)) refl)

  who-other : (p : ℕ) (buffer : List ℕ) → Other (step w (Who p buffer)).number
  unfolding step fills accounts.who unmoved who who_checks others
  who-other p buffer =
      by_settle (λ (o : Told). Other o.number) _ (λ e. seen 0 refl) (λ e. after-other _ _ (passed w g _ p (tables-fit w g p)) refl)

  logout-other : (p : ℕ) → Other (step w (Logout p)).number
  unfolding step answers accounts.logout
  logout-other p = by_settle (λ (a : Answer). Other a.number) _ (λ e. seen 0 refl) (λ e. passed w g false p refl)

  set_password_other : (p : ℕ) (password : List ℕ) (taken : ℕ) → Other (step w (SetPassword p password taken)).number
  unfolding step answers accounts.set_password accounts.replaced set_password set_checks written others
  set_password_other p password taken =
      by_settle (λ (c : Changed). Other c.number) _ (λ e. broken-other (ltb taken (length (file_of w.terminal p w.store))))
      (λ e. after-other _ _ (passed w g _ p (rw (store-fits w g) (tables-fit w g p))) refl)

  abbrev Says : Outcome → Type 0
  Says o = Other o.answer.number

  shut_other : (p : ℕ) (message : List ℕ) → Says (stops.shutdown w.terminal p message w.screens)
  unfolding stops.shutdown stops.stopped
  shut_other p message = by_settle Says _ (λ e. seen 0 refl) (λ e. passed w g _ p (screens-fit w g))

  off_other : (p : ℕ) → Says (stops.switched_off w.terminal p w.screens)
  unfolding stops.switched_off
  off_other p = by_settle Says _ (λ e. seen 0 refl) (λ e. passed w g _ p (screens-fit w g))

  powerdown-other : (p : ℕ) → Other (step w (Powerdown p)).number
  unfolding step answers stops.powerdown
  powerdown-other p = by_cond Says (plan_of w).soft (λ e. off_other p) (λ e. shut_other p [])

pub never_216 : (w : World) (m : Move) → Good w → (step w m).number ≡ 216 → ⊥
unfolding step answers becomes
never_216 w (ReadNext p major minor request buffer) g = read-next-other w g p major minor request buffer
never_216 w (ReadRandom p major minor offset request buffer) g = read_random_other w g p major minor offset request buffer
never_216 w (WriteNext p major minor request bytes) g = write-next-other w g p major minor request bytes
never_216 w (WriteRandom p major minor offset request bytes) g = write_random_other w g p major minor offset request bytes
never_216 w (Load p selector offset buffer) g = load-other w g p selector offset buffer
never_216 w (Store p selector offset bytes) g = store_other w g p selector offset bytes
never_216 w (Flush p selector taken) g = flush-other w g p selector taken
never_216 w (Login p name password) g = login-other w g p name password
never_216 w (Who p buffer) g = who-other w g p buffer
never_216 w (Logout p) g = logout-other w g p
never_216 w (SetPassword p password taken) g = set_password_other w g p password taken
never_216 w (Shutdown p message) g = shut_other w g p message
never_216 w (Powerdown p) g = powerdown-other w g p
never_216 w (Configuration p buffer) g = configuration-other w g p buffer
never_216 w (Key byte) g = seen 0 refl
never_216 w Attention g = seen 0 refl
never_216 w (Fault p device set) g = seen 0 refl
