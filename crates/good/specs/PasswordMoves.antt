-- Set-password leaves a good world good: file and table of the caller become the same new rows with the same users, and all else stays.
use Rattle.std.specs.Prelude.{Bool, true, false, not, ◌||◌, List, [], ◌≡◌, refl, ℕ, eqb, length}
use Rattle.std.proofs.Common.{sym, subst, ◌∙◌, arith, eqb-true, ap}
use Rattle.std.proofs.lemmas.Bool.{eqb-false, not-false}
use Rattle.octets.specs.Lists.{part, over, on_part}
use Rattle.octets.specs.WriteLaws.{length_over, over-same, over_self}
use Rattle.octets.specs.OnPartLaws.{on_part-id, length-on_part, part-on_part-same, part-on_part-apart}
use Rattle.image.specs.Image.{on_file}
use Rattle.image.specs.SpotLaws.{on_file-at}
use Rattle.image.specs.ChangeLaws.{length-on_file, good-on_file}
use Rattle.checks.specs.Checks.{Check, after}
use Rattle.checks.specs.Laws.{second-not-due}
use Rattle.passwords.specs.SameLaws.{SameUsers, users-length, users-count, users-wellFormed}
use Rattle.state.specs.declared.LoginRecord.{LoginRecord}
use Rattle.state.specs.Parts.{is_active, seat_at}
use Rattle.guard.specs.Guard.{guard}
use Rattle.accounts.specs.SetPassword.{set_checks, set_password}
use Rattle.checks.specs.Laws.{after-refused}
use Rattle.accounts.specs.AccountLaws.{set-refused, kept_together, users-kept}
use Rattle.begin.specs.Files.{password_path}
use Rattle.terminal.specs.declared.Terminal.{Terminal}
use Rattle.terminal.specs.Terminal.{record_of, table_of, file_of, guard_of, differs, tables_wrong}
use Rattle.terminal.specs.AccountCalls as accounts
use Rattle.steps.specs.World.{World, SetPassword, answers, step, with_store, with_tables}
use Rattle.good.specs.Good.{plan_of, Seated, Good}
use Rattle.good.specs.StoreChanges.{passwords-differ, still_found, other-file, own-file, still_mapped}

-- ---- the checks

pub none_before : (n : ℕ) (checks : List Check) → after n checks ≡ 0 → n ≡ 0
none_before n checks e = go (eqb n 0) refl
  where
    go : (t : Bool) → eqb n 0 ≡ t → n ≡ 0
    go true h = eqb-true n 0 h
    go false h = sym (after-refused n checks (eqb-false n 0 h)) ∙ e

-- who is past the common checks is active
pub guard-active : (t : Terminal) (wrong : Bool) (p : ℕ) → guard_of t wrong p ≡ 0 → is_active t.plan p ≡ true
unfolding guard_of guard after
guard-active t wrong p e = not-false (is_active t.plan p) (second-not-due _ 213 _ (not (is_active t.plan p)) [] e (λ z. absurd (omega arith)))

-- ---- new rows for an active partition

module _ (w : World) (g : Good w) (p : ℕ) (active : is_active (plan_of w) p ≡ true) (new : List ℕ) (users : SameUsers (file_of w.terminal p w.store) new) where
  abbrev OnFile : List ℕ → List ℕ
  OnFile = on_part (seat_at (plan_of w) p).file.place (seat_at (plan_of w) p).file.length (over new)

  abbrev OnTable : List ℕ → List ℕ
  OnTable = on_part (seat_at (plan_of w) p).table.place (seat_at (plan_of w) p).table.length (over new)

  abbrev ByPath : List ℕ
  ByPath = on_file (password_path p) (over new) w.store

  abbrev Renewed : World
  Renewed = with_tables (OnTable w.tables) (with_store ByPath w)

  new-file : file_of w.terminal p ByPath ≡ new
  new-file =
      own-file w g (password_path p) (over new) (length_over new) p active refl
      ∙ over-same new (file_of w.terminal p w.store) (sym (users-length users))

  new-table : table_of w.terminal p (OnTable w.tables) ≡ new
  unfolding table_of
  new-table =
      part-on_part-same (over new) (length_over new) (seat_at (plan_of w) p).table.place (seat_at (plan_of w) p).table.length w.tables
      ∙ over-same new (table_of w.terminal p w.tables) (sym (users-length users) ∙ ap length (g.seated p active).same)

  own : Seated Renewed p
  own =
      let h = g.seated p active in
      record {
        found = still_found w g (password_path p) (over new) (length_over new) p active;
        same = new-file ∙ sym new-table;
        formed = rw (new-file, ← users-wellFormed users) h.formed;
        user = rw (new-file, ← users-count users) h.user;
      }

  other-table : (q : ℕ) → (p ≡ q → ⊥) → is_active (plan_of w) q ≡ true → table_of w.terminal q (OnTable w.tables) ≡ table_of w.terminal q w.tables
  unfolding table_of
  other-table q differ a = part-on_part-apart (over new) (length_over new) _ _ _ _ w.tables (g.tables_apart p q differ active a)

  other : (q : ℕ) → (p ≡ q → ⊥) → is_active (plan_of w) q ≡ true → Seated Renewed q
  other q differ a =
      let h = g.seated q a in
      let stays = other-file w g (password_path p) (over new) (length_over new) q a (passwords-differ p q differ) in
      record {
        found = still_found w g (password_path p) (over new) (length_over new) q a;
        same = stays ∙ h.same ∙ sym (other-table q differ a);
        formed = rw stays h.formed;
        user = rw stays h.user;
      }

  all_seated : (q : ℕ) → is_active (plan_of w) q ≡ true → Seated Renewed q
  all_seated q a = go (eqb p q) refl
    where
      go : (t : Bool) → eqb p q ≡ t → Seated Renewed q
      go true e = subst (Seated Renewed) (eqb-true p q e) own
      go false e = other q (eqb-false p q e) a

  renewed : Good Renewed
  renewed =
      record {
        tested = g.tested;
        store_long = length-on_file (over new) (length_over new) (password_path p) w.store ∙ g.store_long;
        arena_long = g.arena_long;
        tables_long = length-on_part (over new) (length_over new) _ _ w.tables ∙ g.tables_long;
        screens_long = g.screens_long;
        image = good-on_file (over new) (length_over new) (password_path p) w.store ∙ g.image;
        seated = all_seated;
        mapped = λ row h. let m = still_mapped w g (password_path p) (over new) (length_over new) row (g.mapped row h) in record { path = m.path; free = m.free; found = m.found; titled = m.titled };
        untitled = g.untitled;
        tables_apart = g.tables_apart;
      }

  good-renewed : Good (with_tables (OnTable w.tables) (with_store (OnFile w.store) w))
  good-renewed =
      rw (← on_file-at w.store (over new) (password_path p) (seat_at (plan_of w) p).file.place (seat_at (plan_of w) p).file.length (g.seated p active).found) renewed

-- ---- the call

pub unchanged : (at n : ℕ) (l : List ℕ) → on_part at n (over (part at n l)) l ≡ l
unchanged at n l = on_part-id at n (over (part at n l)) l (over_self (part at n l))

module _ (w : World) (g : Good w) (p : ℕ) where
  abbrev With : List ℕ → List ℕ → World
  With file table =
      with_tables (on_part (seat_at (plan_of w) p).table.place (seat_at (plan_of w) p).table.length (over table) w.tables)
      (with_store (on_part (seat_at (plan_of w) p).file.place (seat_at (plan_of w) p).file.length (over file) w.store) w)

  same_rows : Good (With (file_of w.terminal p w.store) (table_of w.terminal p w.tables))
  unfolding file_of table_of
  same_rows =
      rw (
        unchanged (seat_at (plan_of w) p).file.place (seat_at (plan_of w) p).file.length w.store,
        unchanged (seat_at (plan_of w) p).table.place (seat_at (plan_of w) p).table.length w.tables,
      )
      g

  new-rows : (n : ℕ) (r : LoginRecord) (password : List ℕ) (taken : ℕ) (file table : List ℕ) → is_active (plan_of w) p ≡ true
      → file ≡ file_of w.terminal p w.store → file ≡ table
      → Good (With (set_password n r password taken file table).file (set_password n r password taken file table).table)
  new-rows n r password taken file table a here same =
      let users : SameUsers (file_of w.terminal p w.store) (set_password n r password taken file table).file = rw (← same, ← here) (users-kept n r password taken file) in
      rw (← kept_together n r password taken file table same) (good-renewed w g p a (set_password n r password taken file table).file users)

  abbrev File : List ℕ
  File = file_of w.terminal p w.store

  abbrev Table : List ℕ
  Table = table_of w.terminal p w.tables

  settled : (n : ℕ) (r : LoginRecord) (password : List ℕ) (taken : ℕ) → (n ≡ 0 → is_active (plan_of w) p ≡ true)
      → Good (With (set_password n r password taken File Table).file (set_password n r password taken File Table).table)
  settled n r password taken active = go (eqb (after n (set_checks r password)) 0) refl
    where
      go : (t : Bool) → eqb (after n (set_checks r password)) 0 ≡ t
          → Good (With (set_password n r password taken File Table).file (set_password n r password taken File Table).table)
      go true e =
          let a = active (none_before n (set_checks r password) (eqb-true (after n (set_checks r password)) 0 e)) in
          new-rows n r password taken File Table a refl (g.seated p a).same
      go false e = rw (set-refused n r password taken File Table (eqb-false (after n (set_checks r password)) 0 e)) same_rows

  pub good-set_password : (password : List ℕ) (taken : ℕ) → Good (step w (SetPassword p password taken)).world
  unfolding step answers accounts.set_password accounts.replaced
  good-set_password password taken =
      let t = w.terminal in
      let wrong = differs w.store t.plan.kept.store || tables_wrong t p w.tables in
      settled (guard_of t wrong p) (record_of t p) password taken (guard-active t wrong p)
