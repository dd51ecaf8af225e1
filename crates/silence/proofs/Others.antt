-- Login, who and set-password of a partition p that is not q, behind the mask of q: p's own record, table and file are as they were.
use Rattle.std.specs.Prelude.{Bool, cond, not, ◌||◌, ◌≡◌, ℕ, ◌+◌, eqb, get_or, true, false, List, [], refl}
use Rattle.std.proofs.Common.{ap, sym, ◌∙◌, arith}
use Rattle.std.proofs.Math.Bool.{false≢true}
use Rattle.std.proofs.lemmas.Bool.{eqb-false, not-false}
use Rattle.octets.specs.Lists.{over}
use Rattle.octets.specs.OnPartLaws.{part-on_part-apart, on_part_comm}
use Rattle.octets.specs.WriteLaws.{length_over}
use Rattle.checks.specs.Checks.{◌when◌, refused, after}
use Rattle.checks.specs.Laws.{second-not-due}
use Rattle.rows.specs.LikeLaws.{by_test}
use Rattle.image.specs.SpotLaws.{spots-apart}
use Rattle.begin.specs.Files.{password_path}
use Rattle.state.specs.declared.LoginRecord.{LoginRecord}
use Rattle.state.specs.declared.Partition.{Partition}
use Rattle.state.specs.declared.Plan.{Plan}
use Rattle.state.specs.declared.State.{State}
use Rattle.state.specs.Parts.{seat_at, is_active, with_login}
use Rattle.guard.specs.Guard.{guard}
use Rattle.guard.specs.Test.{good}
use Rattle.passwords.specs.PasswordFile.{mask_digests}
use Rattle.passwords.specs.MaskLaws.{mask-length}
use Rattle.accounts.specs.Login.{login_checks, login}
use Rattle.accounts.specs.Who.{who_checks, who}
use Rattle.accounts.specs.SetPassword.{Changed, changed, set_checks, set_password}
use Rattle.checks.specs.Laws.{after-refused}
use Rattle.accounts.specs.AccountLaws.{login-refused, who-refused, set-refused}
use Rattle.terminal.specs.declared.Terminal.{Terminal}
use Rattle.terminal.specs.Terminal.{answer, unmoved, with_state, with_partition, record_of, with_record, table_of, file_of, guard_of, differs, tables_wrong}
use Rattle.terminal.specs.AccountCalls as accounts
use Rattle.promises.specs.Refusals.{part-back}
use Rattle.steps.specs.World.{World}
use Rattle.good.specs.Good.{Good, SpansApart}
use Rattle.silence.specs.Mask.{seen, mask_store, mask_tables, mask_terminal}
use Rattle.silence.specs.Veil.{veiled}
use Rattle.silence.proofs.Veil.{masked_plan, masked_part, masked_guard}
use Rattle.silence.specs.Worlds.{mask_answer, mask_outcome}
use Rattle.silence.proofs.Stops.{masked_record}
use Rattle.silence.proofs.Memory.{masked_differs}
use Rattle.silence.specs.Others.{mask_written}

-- ---- two password files

other_path : (p q : ℕ) → (p ≡ q → ⊥) → password_path p ≡ password_path q → ⊥
unfolding password_path
other_path p q differ e = let d : 48 + p ≡ 48 + q = ap (λ (l : List ℕ). get_or l 8 0) e in differ (omega arith)

-- ---- who is not active is refused

active-guard : (plan : Plan) (s : State) (wrong : Bool) (p : ℕ) → guard plan s wrong p ≡ 0 → is_active plan p ≡ true
unfolding guard after
active-guard plan s wrong p e =
    not-false (is_active plan p)
    (second-not-due (refused 0 (wrong || not (good plan s)) 216) 213 (212 when s.stopped) (not (is_active plan p)) [] e (λ z. absurd (omega arith)))

-- ---- the pure calls: either they see the same, or they are refused

module _ (n : ℕ) (refusal : n ≡ 0 → ⊥) where
  attempt-refused : (r : LoginRecord) (table other name pw : List ℕ) → login n r other name pw ≡ login n r table name pw
  attempt-refused r table other name pw =
      let e = after-refused n (login_checks r name pw) refusal in
      let h : after n (login_checks r name pw) ≡ 0 → ⊥ = λ z. refusal (sym e ∙ z) in
      login-refused n r other name pw h ∙ sym (login-refused n r table name pw h)

  name-refused : (r : LoginRecord) (table other buffer : List ℕ) → who n r other buffer ≡ who n r table buffer
  name-refused r table other buffer =
      let e = after-refused n (who_checks buffer) refusal in
      let h : after n (who_checks buffer) ≡ 0 → ⊥ = λ z. refusal (sym e ∙ z) in
      who-refused n r other buffer h ∙ sym (who-refused n r table buffer h)

  change_refused : (r : LoginRecord) (pw : List ℕ) (taken : ℕ) (file table : List ℕ) → set_password n r pw taken file table ≡ changed n file table
  change_refused r pw taken file table =
      let e = after-refused n (set_checks r pw) refusal in
      let h : after n (set_checks r pw) ≡ 0 → ⊥ = λ z. refusal (sym e ∙ z) in
      set-refused n r pw taken file table h ∙ ap (λ (m : ℕ). changed m file table) e

module _ (kept : Bool) (q : ℕ) (w : World) (g : Good w) (a : is_active w.terminal.plan q ≡ true) (p : ℕ) (other : eqb p q ≡ false) where
  differ : p ≡ q → ⊥
  differ = eqb-false p q other

  -- ---- what p sees

  record_kept : record_of (mask_terminal kept q w.terminal) p ≡ record_of w.terminal p
  unfolding record_of veiled with_login
  record_kept = ap (λ (x : Partition). x.login) (masked_part kept q w.terminal p) ∙ rw other

  tables-kept : is_active w.terminal.plan p ≡ true → SpansApart (seat_at w.terminal.plan q).table (seat_at w.terminal.plan p).table
  tables-kept act = g.tables_apart q p (λ e. differ (sym e)) a act

  files-kept : is_active w.terminal.plan p ≡ true → SpansApart (seat_at w.terminal.plan q).file (seat_at w.terminal.plan p).file
  files-kept act =
      spots-apart w.store (password_path q) (password_path p) _ _ _ _ (other_path q p (λ e. differ (sym e))) (g.seated q a).found (g.seated p act).found

  table_kept : is_active w.terminal.plan p ≡ true → table_of w.terminal p (mask_tables q w.terminal.plan w.tables) ≡ table_of w.terminal p w.tables
  unfolding table_of
  table_kept act = part-on_part-apart mask_digests mask-length _ _ _ _ w.tables (tables-kept act)

  file-kept : is_active w.terminal.plan p ≡ true → file_of w.terminal p (mask_store q w.terminal.plan w.store) ≡ file_of w.terminal p w.store
  unfolding file_of
  file-kept act = part-on_part-apart mask_digests mask-length _ _ _ _ w.store (files-kept act)

  -- a table of a partition that is not active is not read
  wrong_kept : tables_wrong (mask_terminal kept q w.terminal) p (mask_tables q w.terminal.plan w.tables) ≡ tables_wrong w.terminal p w.tables
  unfolding tables_wrong table_of mask_terminal with_record with_partition with_state
  wrong_kept = go (is_active w.terminal.plan p) refl
    where
      go : (b : Bool) → is_active w.terminal.plan p ≡ b → tables_wrong (mask_terminal kept q w.terminal) p (mask_tables q w.terminal.plan w.tables) ≡ tables_wrong w.terminal p w.tables
      go true e = rw (masked_differs _ _ w.tables w.terminal.plan.kept.tables, record_kept, table_kept e)
      go false e = rw (masked_differs _ _ w.tables w.terminal.plan.kept.tables, e)

  table_view : (l : List ℕ) → table_of (mask_terminal kept q w.terminal) p l ≡ table_of w.terminal p l
  unfolding table_of mask_terminal with_record with_partition with_state
  table_view l = refl

  file_view : (l : List ℕ) → file_of (mask_terminal kept q w.terminal) p l ≡ file_of w.terminal p l
  unfolding file_of mask_terminal with_record with_partition with_state
  file_view l = refl

  -- p is active, or refused
  refused_else : (wrong : Bool) → is_active w.terminal.plan p ≡ false → guard_of w.terminal wrong p ≡ 0 → ⊥
  unfolding guard_of
  refused_else wrong e z = false≢true (sym e ∙ active-guard w.terminal.plan w.terminal.state wrong p z)

  unseen : (r : LoginRecord) → cond (eqb p q) (seen kept r) r ≡ r
  unseen r = rw other

  -- ---- login and who

  pub login-other : (name password : List ℕ)
      → accounts.login (mask_terminal kept q w.terminal) p name password (mask_tables q w.terminal.plan w.tables)
      ≡ mask_answer kept q (accounts.login w.terminal p name password w.tables)
  unfolding accounts.login accounts.tried mask_answer
  login-other name password =
      let wrong = tables_wrong w.terminal p w.tables in
      let n = guard_of w.terminal wrong p in
      let r = record_of w.terminal p in
      let table = table_of w.terminal p w.tables in
      let hidden = table_of w.terminal p (mask_tables q w.terminal.plan w.tables) in
      let same : login n r hidden name password ≡ login n r table name password =
      by_test (is_active w.terminal.plan p) (λ act. ap (λ (l : List ℕ). login n r l name password) (table_kept act))
      (λ no. attempt-refused n (refused_else wrong no) r table hidden name password) in
      rw (
        wrong_kept,
        masked_guard kept q w.terminal wrong p,
        record_kept,
        table_view (mask_tables q w.terminal.plan w.tables),
        same,
        masked_record kept q w.terminal p (login n r table name password).login (unseen _),
      )

  pub who-other : (buffer : List ℕ)
      → accounts.who (mask_terminal kept q w.terminal) p (mask_tables q w.terminal.plan w.tables) buffer ≡ mask_outcome kept q (accounts.who w.terminal p w.tables buffer)
  unfolding accounts.who unmoved mask_outcome mask_answer
  who-other buffer =
      let wrong = tables_wrong w.terminal p w.tables in
      let n = guard_of w.terminal wrong p in
      let r = record_of w.terminal p in
      let table = table_of w.terminal p w.tables in
      let hidden = table_of w.terminal p (mask_tables q w.terminal.plan w.tables) in
      let same : who n r hidden buffer ≡ who n r table buffer =
      by_test (is_active w.terminal.plan p) (λ act. ap (λ (l : List ℕ). who n r l buffer) (table_kept act))
      (λ no. name-refused n (refused_else wrong no) r table hidden buffer) in
      rw (wrong_kept, masked_guard kept q w.terminal wrong p, record_kept, table_view (mask_tables q w.terminal.plan w.tables), same)

  -- ---- set-password

  replaced-hidden : (c : Changed) → is_active w.terminal.plan p ≡ true
      → accounts.replaced (mask_terminal kept q w.terminal) p (mask_store q w.terminal.plan w.store) (mask_tables q w.terminal.plan w.tables) c
      ≡ mask_written kept q (accounts.replaced w.terminal p w.store w.tables c)
  unfolding accounts.replaced mask_answer mask_written mask_terminal with_record with_partition with_state
  replaced-hidden c act =
      rw (
        on_part_comm mask_digests (over c.file) mask-length (length_over c.file) _ _ _ _ w.store (files-kept act),
        on_part_comm mask_digests (over c.table) mask-length (length_over c.table) _ _ _ _ w.tables (tables-kept act),
      )

  replaced-refused : (t : Terminal) (n : ℕ) (store tables : List ℕ)
      → accounts.replaced t p store tables (changed n (file_of t p store) (table_of t p tables)) ≡ accounts.written (answer n 0 t) store tables
  unfolding accounts.replaced file_of table_of
  replaced-refused t n store tables = rw (part-back _ _ _ store refl, part-back _ _ _ tables refl)

  set-guard :
      guard_of (mask_terminal kept q w.terminal)
      (differs (mask_store q w.terminal.plan w.store) (mask_terminal kept q w.terminal).plan.kept.store
      || tables_wrong (mask_terminal kept q w.terminal) p (mask_tables q w.terminal.plan w.tables)) p
      ≡ guard_of w.terminal (differs w.store w.terminal.plan.kept.store || tables_wrong w.terminal p w.tables) p
  set-guard =
      rw (masked_guard kept q w.terminal, wrong_kept, masked_differs _ _ w.store, masked_plan kept q w.terminal)

  module _ (n : ℕ) (password : List ℕ) (taken : ℕ) where
    abbrev SeenAlike : Type 0
    SeenAlike =
        accounts.replaced (mask_terminal kept q w.terminal) p (mask_store q w.terminal.plan w.store) (mask_tables q w.terminal.plan w.tables)
        (set_password n (record_of w.terminal p) password taken (file_of w.terminal p (mask_store q w.terminal.plan w.store))
        (table_of w.terminal p (mask_tables q w.terminal.plan w.tables)))
        ≡ mask_written kept q
        (accounts.replaced w.terminal p w.store w.tables
        (set_password n (record_of w.terminal p) password taken (file_of w.terminal p w.store) (table_of w.terminal p w.tables)))

    set-active : is_active w.terminal.plan p ≡ true → SeenAlike
    set-active act = rw (file-kept act, table_kept act) (replaced-hidden _ act)

    idle : accounts.replaced (mask_terminal kept q w.terminal) p (mask_store q w.terminal.plan w.store) (mask_tables q w.terminal.plan w.tables)
        (changed n (file_of w.terminal p (mask_store q w.terminal.plan w.store)) (table_of w.terminal p (mask_tables q w.terminal.plan w.tables)))
        ≡ accounts.written (answer n 0 (mask_terminal kept q w.terminal)) (mask_store q w.terminal.plan w.store) (mask_tables q w.terminal.plan w.tables)
    unfolding file_of table_of mask_terminal with_record with_partition with_state
    idle = replaced-refused (mask_terminal kept q w.terminal) n (mask_store q w.terminal.plan w.store) (mask_tables q w.terminal.plan w.tables)

    set-idle : (n ≡ 0 → ⊥) → SeenAlike
    unfolding mask_written mask_answer
    set-idle h =
        rw (
          change_refused n h (record_of w.terminal p) password taken (file_of w.terminal p (mask_store q w.terminal.plan w.store))
              (table_of w.terminal p (mask_tables q w.terminal.plan w.tables)),
          change_refused n h (record_of w.terminal p) password taken (file_of w.terminal p w.store) (table_of w.terminal p w.tables),
          replaced-refused w.terminal n w.store w.tables,
        ) idle

  pub set_other : (password : List ℕ) (taken : ℕ)
      → accounts.set_password (mask_terminal kept q w.terminal) p password taken (mask_store q w.terminal.plan w.store) (mask_tables q w.terminal.plan w.tables)
      ≡ mask_written kept q (accounts.set_password w.terminal p password taken w.store w.tables)
  unfolding accounts.set_password
  set_other password taken =
      let wrong = differs w.store w.terminal.plan.kept.store || tables_wrong w.terminal p w.tables in
      let n = guard_of w.terminal wrong p in
      rw (set-guard, record_kept, table_view (mask_tables q w.terminal.plan w.tables), file_view (mask_store q w.terminal.plan w.store))
      (by_test (is_active w.terminal.plan p) (set-active n password taken) (λ off. set-idle n password taken (refused_else wrong off)))
