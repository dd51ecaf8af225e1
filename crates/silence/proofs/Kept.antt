-- q's own login, who and set-password behind the mask that keeps q's login record: what they answer hangs on no digest, but for a login's number.
use Rattle.std.specs.Prelude.{Bool, true, false, not, ◌&&◌, List, [], ◌∷◌, ◌≢◌, ◌≡◌, refl, ℕ, eqb, length, Option, Some, None}
use Rattle.std.proofs.Common.{sym, ◌∙◌, arith, ne_eqb}
use Rattle.std.proofs.Math.Bool.{and-eq-true_iff}
use Rattle.std.proofs.lemmas.Bool.{eqb-false, not-true}
use Rattle.octets.specs.Lists.{part}
use Rattle.octets.specs.Same.{same_bytes}
use Rattle.octets.specs.OnPartLaws.{part-on_part-same}
use Rattle.checks.specs.Checks.{Check, refused, after}
use Rattle.devices.specs.Choice.{by_cond}
use Rattle.checks.specs.Settle.{settle, by_settle}
use Rattle.sha256.specs.Digest.{digest}
use Rattle.state.specs.declared.LoginRecord.{LoginRecord}
use Rattle.guard.specs.Guard.{guard}
use Rattle.passwords.specs.declared.Lookup.{Lookup}
use Rattle.passwords.specs.declared.Entry.{Entry}
use Rattle.passwords.specs.Account.{digest_length}
use Rattle.passwords.specs.PasswordFile.{find, mask_digests}
use Rattle.passwords.specs.SameLaws.{users-sound, users-count}
use Rattle.passwords.specs.MaskLaws.{masked_users, mask-length, mask-find}
use Rattle.accounts.specs.declared.Attempt.{Attempt}
use Rattle.accounts.specs.Strings.{is_string, string_of}
use Rattle.accounts.specs.Users.{readable}
use Rattle.accounts.specs.Login.{attempt, tried_entry, tried, login_checks, login}
use Rattle.accounts.specs.SetPassword.{Changed, written, set_checks, set_password}
use Rattle.accounts.specs.WorkLaws.{one_block}
use Rattle.accounts.specs.AccountLaws.{who_masked}
use Rattle.terminal.specs.declared.Terminal.{Terminal}
use Rattle.terminal.specs.Terminal.{unmoved, record_of, with_record, table_of, file_of, guard_of, tables_wrong}
use Rattle.terminal.specs.AccountCalls as accounts
use Rattle.promises.specs.Refusals.{record_back}
use Rattle.steps.specs.World.{World, answers, step}
use Rattle.steps.specs.World.Move.{Login, Who, SetPassword}
use Rattle.silence.specs.Mask.{seen, mask, mask_store, mask_tables, mask_terminal, mask_result}
use Rattle.silence.proofs.Veil.{record_plan}
use Rattle.silence.specs.Worlds.{mask_answer, mask_outcome}
use Rattle.silence.proofs.Worlds.{settle-map}
use Rattle.silence.proofs.Memory.{masked_differs}
use Rattle.silence.proofs.Commute.{filled, answered}
use Rattle.silence.specs.Kept.{reported_entry, reported, shown_login}

-- with the login record kept the whole terminal is seen
pub kept-terminal : (q : ℕ) (t : Terminal) → mask_terminal true q t ≡ t
unfolding mask_terminal seen
kept-terminal q t = record_back t q

-- ---- what a table test and a name look for is no digest

readable_masked : (r : LoginRecord) (table : List ℕ) → readable r (mask_digests table) ≡ readable r table
unfolding readable
readable_masked r table = rw (← users-sound (masked_users table), ← users-count (masked_users table))

module _ (q : ℕ) (t : Terminal) where
  table_masked : (tables : List ℕ) → table_of t q (mask_tables q t.plan tables) ≡ mask_digests (table_of t q tables)
  unfolding table_of
  table_masked tables = part-on_part-same mask_digests mask-length _ _ tables

  file_masked : (store : List ℕ) → file_of t q (mask_store q t.plan store) ≡ mask_digests (file_of t q store)
  unfolding file_of
  file_masked store = part-on_part-same mask_digests mask-length _ _ store

  wrong_masked : (tables : List ℕ) → tables_wrong t q (mask_tables q t.plan tables) ≡ tables_wrong t q tables
  unfolding tables_wrong
  wrong_masked tables =
      rw (table_masked tables, readable_masked (record_of t q) (table_of t q tables), masked_differs _ _ tables t.plan.kept.tables)

  -- ---- who

  who-kept : (tables buffer : List ℕ) → accounts.who t q (mask_tables q t.plan tables) buffer ≡ accounts.who t q tables buffer
  unfolding accounts.who
  who-kept tables buffer =
      rw (wrong_masked tables, table_masked tables, who_masked (guard_of t (tables_wrong t q tables) q) (record_of t q) (table_of t q tables) buffer)

  who-hidden : (tables buffer : List ℕ) → accounts.who (mask_terminal true q t) q (mask_tables q t.plan tables) buffer ≡ mask_outcome true q (accounts.who t q tables buffer)
  unfolding mask_outcome mask_answer accounts.who unmoved
  who-hidden tables buffer = rw (kept-terminal q t) (who-kept tables buffer)

pub who-own : (q : ℕ) (w : World) (buffer : List ℕ) → step (mask true q w) (Who q buffer) ≡ mask_result true q (step w (Who q buffer))
unfolding step mask accounts.who unmoved
who-own q w buffer = filled true q w (accounts.who w.terminal q w.tables buffer) _ (who-hidden q w.terminal w.tables buffer) refl

-- ---- set-password

same_numbers : (n : ℕ) (r : LoginRecord) (pw other : List ℕ) (taken : ℕ) (file hidden : List ℕ) → is_string pw ≡ is_string other → length file ≡ length hidden
    → settle (after n (set_checks r pw)) (written taken file) (after n (set_checks r pw)) ≡ settle (after n (set_checks r other)) (written taken hidden) (after n (set_checks r other))
unfolding set_checks written
same_numbers n r pw other taken file hidden e long = rw (e, long)

-- its number hangs on the password only by its being a string
set-number : (n : ℕ) (r : LoginRecord) (pw other : List ℕ) (taken : ℕ) (file table hidden blank : List ℕ) → is_string pw ≡ is_string other → length file ≡ length hidden
    → (set_password n r pw taken file table).number ≡ (set_password n r other taken hidden blank).number
unfolding set_password
set-number n r pw other taken file table hidden blank e long =
    sym (settle-map (λ (c : Changed). c.number) (after n (set_checks r pw)) _ _)
    ∙ numbers
    ∙ settle-map (λ (c : Changed). c.number) (after n (set_checks r other)) _ _
  where
    numbers : settle (after n (set_checks r pw)) (written taken file) (after n (set_checks r pw)) ≡ settle (after n (set_checks r other)) (written taken hidden) (after n (set_checks r other))
    numbers = same_numbers n r pw other taken file hidden e long

refusal-reported : (m : ℕ) (r : LoginRecord) (at : Lookup) → m ≢ 0 → m ≢ 300 → attempt m 0 r ≡ reported m r at
unfolding reported
refusal-reported m r at h k = go at.entry
  where
    go : (e : Option Entry) → attempt m 0 r ≡ reported_entry m r at.count e
    go None = rw (ne_eqb m 300 k)
    go (Some a) = rw (ne_eqb m 0 h, ne_eqb m 300 k)

tried-reported : (r : LoginRecord) (table pw : List ℕ) (at : Lookup) → tried r table (string_of pw) at ≡ reported (tried r table (string_of pw) at).number r at
unfolding tried reported
tried-reported r table pw at = by_entry at.entry
  where
    by_entry : (f : Option Entry)
        → tried_entry r table (string_of pw) at.count f ≡ reported_entry (tried_entry r table (string_of pw) at.count f).number r at.count f
    by_entry None = refl
    by_entry (Some a) = go (same_bytes (digest (string_of pw)) (part a.digest digest_length table)) refl
      where
        go : (b : Bool) → same_bytes (digest (string_of pw)) (part a.digest digest_length table) ≡ b
            → tried_entry r table (string_of pw) at.count (Some a)
            ≡ reported_entry (tried_entry r table (string_of pw) at.count (Some a)).number r at.count (Some a)
        go true e = rw (e, one_block pw)
        go false e = rw (e, one_block pw)

-- no check of a list gives the number k
unfoldable without : ℕ → List Check → Bool
without k [] = true
without k (c ∷ checks) = not (eqb c.number k) && without k checks

refused-not : (k n : ℕ) (due : Bool) (number : ℕ) → 0 ≢ k → n ≢ k → number ≢ k → refused n due number ≢ k
unfolding refused
refused-not k n due number z h g =
    by_cond (λ (x : ℕ). x ≢ k) (eqb n 0) (λ e. by_cond (λ (x : ℕ). x ≢ k) due (λ f. g) (λ f. z)) (λ e. h)

-- then it is not the answer
after-not : (k n : ℕ) (checks : List Check) → 0 ≢ k → n ≢ k → without k checks ≡ true → after n checks ≢ k
unfolding without after
after-not k n [] z h e = h
after-not k n (c ∷ checks) z h e =
    let both = (and-eq-true_iff (not (eqb c.number k)) (without k checks)).0 e in
    after-not k (refused n c.due c.number) checks z (refused-not k n c.due c.number z h (eqb-false c.number k (not-true _ both.0))) both.1

login-reported : (n : ℕ) (r : LoginRecord) (table name pw : List ℕ) → n ≢ 300 → login n r table name pw ≡ reported (login n r table name pw).number r (find (string_of name) table)
unfolding login login_checks without
login-reported n r table name pw h =
    by_settle (λ (x : Attempt). x ≡ reported x.number r (find (string_of name) table)) _ (λ e. tried-reported r table pw (find (string_of name) table))
    (λ e. refusal-reported _ r (find (string_of name) table) e (after-not 300 n _ (λ z. omega arith) h refl))

guard-not : (t : Terminal) (wrong : Bool) (p : ℕ) → guard_of t wrong p ≢ 300
unfolding guard_of guard without
guard-not t wrong p = after-not 300 0 _ (λ z. omega arith) (λ z. omega arith) refl

login-hidden : (q : ℕ) (t : Terminal) (tables name pw : List ℕ)
    → accounts.tried (mask_terminal true q t) q
    (reported (accounts.login t q name pw tables).number (record_of (mask_terminal true q t) q) (find (string_of name) (table_of (mask_terminal true q t) q (mask_tables q t.plan tables))))
    ≡ mask_answer true q (accounts.login t q name pw tables)
unfolding accounts.login accounts.tried mask_answer
login-hidden q t tables name pw =
    rw (
      kept-terminal q t,
      kept-terminal q (with_record q _ t),
      table_masked q t tables,
      mask-find (string_of name) (table_of t q tables),
      ← login-reported (guard_of t (tables_wrong t q tables) q) (record_of t q) (table_of t q tables) name pw (guard-not t (tables_wrong t q tables) q),
    )

login-plan : (q : ℕ) (t : Terminal) (tables name pw : List ℕ) → (accounts.login t q name pw tables).terminal.plan ≡ t.plan
unfolding accounts.login accounts.tried
login-plan q t tables name pw = record_plan q _ t

pub login-own : (q : ℕ) (w : World) (name pw : List ℕ)
    → shown_login q name (mask true q w) (step w (Login q name pw)).number ≡ mask_result true q (step w (Login q name pw))
unfolding step mask shown_login answers
login-own q w name pw =
    answered true q w (accounts.login w.terminal q name pw w.tables) _ (login-hidden q w.terminal w.tables name pw) (login-plan q w.terminal w.tables name pw)

-- ---- set-password's step

module _ (q : ℕ) (w : World) (pw other : List ℕ) (taken : ℕ) where
  pub set_own : is_string pw ≡ is_string other → (step w (SetPassword q pw taken)).number ≡ (step (mask true q w) (SetPassword q other taken)).number
  unfolding step answers mask accounts.set_password accounts.replaced
  set_own e =
      let t = w.terminal in
      rw (
        kept-terminal q w.terminal,
        wrong_masked q w.terminal w.tables,
        masked_differs _ _ w.store w.terminal.plan.kept.store,
        table_masked q w.terminal w.tables,
        file_masked q w.terminal w.store,
      )
      (set-number _ (record_of t q) pw other taken (file_of t q w.store) (table_of t q w.tables) (mask_digests (file_of t q w.store)) (mask_digests (table_of t q w.tables)) e
      (sym (mask-length (file_of t q w.store))))
