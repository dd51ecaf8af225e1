-- Demand 1: "only a store write that breaks off may leave its stated first bytes, and memory's password table then follows the store". Which moves can be
-- answered 203 (WRITE_FAILURE), and what each of them may then have changed. Writes to a device change nothing then: Refusals has that.
use Rattle.std.specs.Prelude.{Bool, true, false, ◌||◌, List, [], ◌∷◌, ◌≢◌, ◌≡◌, ℕ, ◌+◌, ◌-◌, ◌≤◌, min, ltb, length, take, refl}
use Rattle.std.proofs.Common.{sym, subst, ◌∙◌, le_refl, arith, length-take}
use Rattle.octets.specs.Lists.{part, over, on_part, write_at}
use Rattle.octets.specs.OnPartLaws.{on_part-same, take-on_part-before, drop-on_part-behind, part-on_part-same}
use Rattle.octets.specs.WriteLaws.{length_over, over-same, write_at-zero, on_part-write_at, drop-write_at-behind}
use Rattle.checks.specs.Settle.{by_settle}
use Rattle.checks.specs.Told.{Told}
use Rattle.octets.specs.declared.span.Span.{Span}
use Rattle.state.specs.Parts.{seat_at}
use Rattle.memory.specs.Memory.{bytes_of, flush_checks, flush}
use Rattle.accounts.specs.Strings.{string_of}
use Rattle.accounts.specs.Users.{place_of}
use Rattle.accounts.specs.SetPassword.{Changed, file_image, on_store, written, set_checks, set_password}
use Rattle.accounts.specs.AccountLaws.{file-length, table-length, kept_together}
use Rattle.terminal.specs.Terminal.{unmoved, record_of, file_of, table_of, guard_of, differs, tables_wrong}
use Rattle.terminal.specs.MemoryCalls as memory
use Rattle.terminal.specs.AccountCalls as accounts
use Rattle.promises.specs.Numbers.{common, numbers_of, among, within}
use Rattle.promises.proofs.Numbers.{call-among, not_given, answer-known}
use Rattle.promises.specs.Refusals.{Unchanged, writes, part-back, write-next-refused, write_random_refused}
use Rattle.steps.specs.World.{World, Move, answers, step, with_store, with_tables}
use Rattle.steps.specs.World.Move.{ReadNext, ReadRandom, WriteNext, WriteRandom, Load, Store, Flush, Login, Who, Logout, SetPassword, Shutdown, Powerdown, Configuration, Key, Attention, Fault}
use Rattle.promises.specs.WriteFailure.{can_fail, OnlyFirst, OnlyPart, segment_of}

-- 203 is one of those moves' numbers, and of no other's
can_fail_lem : (m : Move) → among 203 (numbers_of m) ≡ true → can_fail m ≡ true
unfolding can_fail among numbers_of
can_fail_lem (WriteNext p major minor request bytes) e = refl
can_fail_lem (WriteRandom p major minor offset request bytes) e = refl
can_fail_lem (Flush p selector taken) e = refl
can_fail_lem (SetPassword p password taken) e = refl
can_fail_lem (ReadNext p major minor request buffer) e = e
can_fail_lem (ReadRandom p major minor offset request buffer) e = e
can_fail_lem (Load p selector offset buffer) e = e
can_fail_lem (Store p selector offset bytes) e = e
can_fail_lem (Login p name password) e = e
can_fail_lem (Who p buffer) e = e
can_fail_lem (Logout p) e = e
can_fail_lem (Shutdown p message) e = e
can_fail_lem (Powerdown p) e = e
can_fail_lem (Configuration p buffer) e = e
can_fail_lem (Key byte) e = e
can_fail_lem Attention e = e
can_fail_lem (Fault p device set) e = e

-- WRITE_FAILURE comes from those four alone
pub only_writes_fail : (w : World) (m : Move) → (step w m).number ≡ 203 → can_fail m ≡ true
only_writes_fail w m e = can_fail_lem m (subst (λ (n : ℕ). among n (numbers_of m) ≡ true) e (answer-known w m))

zero-not : (n : ℕ) → n ≡ 0 → n ≢ 203
zero-not n z e = omega arith

only_part : (s : Span) (new l : List ℕ) → OnlyPart s l (on_part s.place s.length (over new) l)
only_part s new l =
    record {
      before = take-on_part-before (over new) (length_over new) s.place s.place s.length l (le_refl s.place);
      behind = drop-on_part-behind (over new) (length_over new) (s.place + s.length) s.place s.length l (le_refl (s.place + s.length));
    }

only_first : (s : Span) (taken : ℕ) (new l : List ℕ) → length new ≤ taken → OnlyFirst s taken l (on_part s.place s.length (over new) l)
only_first s taken new l h =
    let fits : (s.place + 0) + length (take (s.length - 0) new) ≤ s.place + min taken s.length = rw length-take (omega arith) in
    record {
      before = (only_part s new l).before;
      from =
          rw (
            on_part-same s.place s.length (over new) (write_at 0 new) l (sym (write_at-zero new (part s.place s.length l))),
            on_part-write_at s.place s.length 0 new l,
          )
          (drop-write_at-behind (s.place + min taken s.length) (s.place + 0) (take (s.length - 0) new) l fits);
    }

first_short : (taken : ℕ) (l : List ℕ) → length (take taken l) ≤ taken
first_short taken l = rw length-take (omega arith)

-- 203 says that the write broke off
broke_off : (broken : Bool) → writes broken ≡ 203 → broken ≡ true
unfolding writes
broke_off true e = refl
broke_off false e = absurd (zero-not 0 refl e)

module _ (w : World) (p selector taken : ℕ) where
  -- whatever is answered, the store alone may have changed ..
  pub flush-changes_the_store-alone : (step w (Flush p selector taken)).world ≡ with_store (step w (Flush p selector taken)).world.store w
  unfolding step answers memory.flush unmoved
  flush-changes_the_store-alone = refl

  -- .. and there the first bytes of the segment's file, as many as the store takes
  pub flush-changes-first-bytes-alone : OnlyFirst (segment_of w p selector).file taken w.store (step w (Flush p selector taken)).world.store
  unfolding step answers memory.flush unmoved flush
  flush-changes-first-bytes-alone =
      by_settle (λ (o : Told). OnlyFirst (segment_of w p selector).file taken w.store o.lent) _
      (λ e. only_first (segment_of w p selector).file taken _ w.store (first_short taken _))
      (λ e. record { before = refl; from = refl })

  -- at 203 the store took fewer bytes than the segment has, and these are now the file's first bytes
  pub flush_failed : (step w (Flush p selector taken)).number ≡ 203
      → (ltb taken (segment_of w p selector).memory.length ≡ true)
      × ((step w (Flush p selector taken)).world.store
      ≡ on_part (segment_of w p selector).file.place (segment_of w p selector).file.length (over (take taken (bytes_of (segment_of w p selector) w.arena))) w.store)
  unfolding step answers memory.flush unmoved flush flush_checks among within writes
  flush_failed =
      by_settle
      (λ (o : Told).
      o.number ≡ 203
      → (ltb taken (segment_of w p selector).memory.length ≡ true)
      × (o.lent
      ≡ on_part (segment_of w p selector).file.place (segment_of w p selector).file.length (over (take taken (bytes_of (segment_of w p selector) w.arena))) w.store))
      _
      (λ e f. (broke_off (ltb taken (segment_of w p selector).memory.length) f, refl))
      (λ e f. not_given (common (211 ∷ 201 ∷ 202 ∷ [])) _ 203 (call-among (211 ∷ 201 ∷ 202 ∷ []) w.terminal _ p _ refl) f refl)

-- ---- set-password

module _ (w : World) (p : ℕ) (password : List ℕ) (taken : ℕ) where
  -- whatever is answered, the store and the tables alone may have changed ..
  pub set_password_changes-two_areas_alone : (step w (SetPassword p password taken)).world
      ≡ with_tables (step w (SetPassword p password taken)).world.tables (with_store (step w (SetPassword p password taken)).world.store w)
  unfolding step answers accounts.set_password accounts.replaced
  set_password_changes-two_areas_alone = refl

  -- .. on the store the first bytes of the caller's password file, as many as the store takes ..
  pub set_password_changes-first-bytes-alone : OnlyFirst (seat_at w.terminal.plan p).file taken w.store (step w (SetPassword p password taken)).world.store
  unfolding step answers accounts.set_password accounts.replaced set_password on_store file_of
  set_password_changes-first-bytes-alone =
      let s = (seat_at w.terminal.plan p).file in
      let file = part s.place s.length w.store in
      by_settle (λ (c : Changed). OnlyFirst s taken w.store (on_part s.place s.length (over c.file) w.store)) _
      (λ e. rw (on_part-same s.place s.length _ (over (take taken _)) w.store (over-same _ file (length_over _ file)))
      (only_first s taken _ w.store (first_short taken _)))
      (λ e. rw (part-back s.place s.length file w.store refl) (record { before = refl; from = refl }))

  -- .. and of the tables the caller's
  pub set_password_changes-own-table-alone : OnlyPart (seat_at w.terminal.plan p).table w.tables (step w (SetPassword p password taken)).world.tables
  unfolding step answers accounts.set_password accounts.replaced
  set_password_changes-own-table-alone = only_part (seat_at w.terminal.plan p).table _ w.tables

  -- at 203 the store took fewer bytes than the file has, and the file now begins with as many of the image that has the new digest
  pub set_password_failed : (step w (SetPassword p password taken)).number ≡ 203
      → (ltb taken (length (file_of w.terminal p w.store)) ≡ true)
      × (file_of w.terminal p (step w (SetPassword p password taken)).world.store
      ≡ over (take taken (file_image (place_of (record_of w.terminal p).user) (string_of password) (table_of w.terminal p w.tables))) (file_of w.terminal p w.store))
  unfolding step answers accounts.set_password accounts.replaced set_password set_checks on_store written among within writes file_of
  set_password_failed =
      let s = (seat_at w.terminal.plan p).file in
      let file = part s.place s.length w.store in
      let image = file_image (place_of (record_of w.terminal p).user) (string_of password) (table_of w.terminal p w.tables) in
      by_settle
      (λ (c : Changed).
      c.number ≡ 203
      → (ltb taken (length file) ≡ true)
      × (part s.place s.length (on_part s.place s.length (over c.file) w.store) ≡ over (take taken image) file))
      _
      (λ e f. (
        broke_off (ltb taken (length file)) f,
        part-on_part-same (over (over (take taken image) file)) (length_over (over (take taken image) file)) s.place s.length w.store
            ∙ over-same (over (take taken image) file) file (length_over (take taken image) file),
      ))
      (λ e f. not_given (common (303 ∷ 302 ∷ [])) _ 203 (call-among (303 ∷ 302 ∷ []) w.terminal _ p _ refl) f refl)

  -- "memory's password table then follows the store": where the two were the same, they are the same afterwards, whatever is answered
  pub table-follows-store : file_of w.terminal p w.store ≡ table_of w.terminal p w.tables
      → file_of w.terminal p (step w (SetPassword p password taken)).world.store ≡ table_of w.terminal p (step w (SetPassword p password taken)).world.tables
  unfolding step answers accounts.set_password accounts.replaced file_of table_of
  table-follows-store same =
      let f = (seat_at w.terminal.plan p).file in
      let m = (seat_at w.terminal.plan p).table in
      let file = part f.place f.length w.store in
      let table = part m.place m.length w.tables in
      let n = guard_of w.terminal (differs w.store w.terminal.plan.kept.store || tables_wrong w.terminal p w.tables) p in
      let r = record_of w.terminal p in
      let c = set_password n r password taken file table in
      part-on_part-same (over c.file) (length_over c.file) f.place f.length w.store
      ∙ over-same c.file file (file-length n r password taken file table)
      ∙ kept_together n r password taken file table same
      ∙ sym (over-same c.table table (table-length n r password taken file table))
      ∙ sym (part-on_part-same (over c.table) (length_over c.table) m.place m.length w.tables)

-- ---- writes to a device: at 203, a faulty device, nothing has changed

pub write-next_failed : (w : World) (p major minor request : ℕ) (bytes : List ℕ)
    → (step w (WriteNext p major minor request bytes)).number ≡ 203 → Unchanged w (WriteNext p major minor request bytes)
write-next_failed w p major minor request bytes e = write-next-refused w p major minor request bytes (λ z. zero-not _ z e)

pub write_random_failed : (w : World) (p major minor offset request : ℕ) (bytes : List ℕ)
    → (step w (WriteRandom p major minor offset request bytes)).number ≡ 203 → Unchanged w (WriteRandom p major minor offset request bytes)
write_random_failed w p major minor offset request bytes e = write_random_refused w p major minor offset request bytes (λ z. zero-not _ z e)
