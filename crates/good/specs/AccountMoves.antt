-- Login, who and logout leave a good world good.
use Rattle.std.specs.Prelude.{true, List, ◌≡◌, refl, ℕ}
use Rattle.std.proofs.Math.Bool.{and-eq-true_iff}
use Rattle.checks.specs.Settle.{by_settle}
use Rattle.passwords.specs.PasswordFile.{sound, count}
use Rattle.passwords.specs.ChangeLaws.{well_formed-sound}
use Rattle.state.specs.declared.LoginRecord.{LoginRecord}
use Rattle.state.specs.Empty.{nobody}
use Rattle.state.specs.Parts.{is_active}
use Rattle.accounts.specs.Users.{placed, readable}
use Rattle.accounts.specs.Login.{login}
use Rattle.accounts.specs.AccountLaws.{login-readable}
use Rattle.terminal.specs.declared.Answer.{Answer}
use Rattle.terminal.specs.Terminal.{unmoved, record_of, table_of, file_of, guard_of, tables_wrong}
use Rattle.terminal.specs.AccountCalls as accounts
use Rattle.steps.specs.World.{World, Login, Who, Logout, fills, answers, step, with_terminal}
use Rattle.good.specs.Good.{plan_of, Good}
use Rattle.good.specs.Changes.{good_record_lem}

module _ (w : World) (g : Good w) where
  -- the table of an active partition can be read, and its user has a record there
  pub table-readable : (p : ℕ) → is_active (plan_of w) p ≡ true → readable (record_of w.terminal p) (table_of w.terminal p w.tables) ≡ true
  unfolding readable
  table-readable p a =
      let h = g.seated p a in
      rw (← h.same, well_formed-sound (file_of w.terminal p w.store) h.formed, h.user)

  -- who can read the table has a record in the file
  reader-placed : (p : ℕ) (r : LoginRecord) → is_active (plan_of w) p ≡ true → readable r (table_of w.terminal p w.tables) ≡ true
      → placed r.user (count (file_of w.terminal p w.store)) ≡ true
  unfolding readable
  reader-placed p r a h =
      let table = table_of w.terminal p w.tables in
      rw (g.seated p a).same ((and-eq-true_iff (sound table) (placed r.user (count table))).0 h).1

  pub good-login : (p : ℕ) (name password : List ℕ) → Good (step w (Login p name password)).world
  unfolding step answers accounts.login accounts.tried
  good-login p name password =
      let t = w.terminal in
      let table = table_of t p w.tables in
      good_record_lem w g p (login (guard_of t (tables_wrong t p w.tables) p) (record_of t p) table name password).login
      (λ a. reader-placed p _ a (login-readable (guard_of t (tables_wrong t p w.tables) p) (record_of t p) table name password (table-readable p a)))

  pub good-who : (p : ℕ) (buffer : List ℕ) → Good (step w (Who p buffer)).world
  unfolding step fills accounts.who unmoved
  good-who p buffer = g

  pub good-logout : (p : ℕ) → Good (step w (Logout p)).world
  unfolding step answers accounts.logout placed
  good-logout p = by_settle (λ (a : Answer). Good (with_terminal a.terminal w)) _ (λ e. good_record_lem w g p nobody (λ a. refl)) (λ e. g)
