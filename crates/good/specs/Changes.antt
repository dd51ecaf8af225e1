-- Kinds of change that leave a good world good: another state with good partitions, an active focus and users that have records; screens or arena of the same length.
use Rattle.std.specs.Prelude.{Bool, ◌&&◌, List, ◌≡◌, ℕ, length, true}
use Rattle.std.proofs.Common.{subst, ◌∙◌}
use Rattle.std.proofs.Math.Bool.{and-eq-true_iff}
use Rattle.passwords.specs.PasswordFile.{count}
use Rattle.state.specs.declared.Plan.{Plan}
use Rattle.state.specs.declared.State.{State}
use Rattle.state.specs.declared.Partition.{Partition}
use Rattle.state.specs.declared.LoginRecord.{LoginRecord}
use Rattle.state.specs.Empty.{no_partition}
use Rattle.state.specs.Parts.{is_active, part_at, with_part, with_login, with_stop, with_focus}
use Rattle.guard.specs.Test.{all_of, good_partition, good_plan, good}
use Rattle.accounts.specs.Users.{placed}
use Rattle.terminal.specs.Terminal.{with_state, with_partition, with_record, partition_of, record_of, table_of, file_of}
use Rattle.steps.specs.World.{World, with_terminal, with_screens, with_arena}
use Rattle.good.specs.Good.{plan_of, Good}
use Rattle.good.specs.Partitions.{all_set, by_set, part-good, Follows}

-- ---- the state test, in parts

module _ (plan : Plan) (s : State) where
  pub test_plan : good plan s ≡ true → good_plan plan ≡ true
  unfolding good
  test_plan h = ((and-eq-true_iff (good_plan plan) (is_active plan s.focus && all_of good_partition s.partitions)).0 h).0

  pub test_focus : good plan s ≡ true → is_active plan s.focus ≡ true
  unfolding good
  test_focus h =
      let b = ((and-eq-true_iff (good_plan plan) (is_active plan s.focus && all_of good_partition s.partitions)).0 h).1 in
      ((and-eq-true_iff (is_active plan s.focus) (all_of good_partition s.partitions)).0 b).0

  pub test_parts : good plan s ≡ true → all_of good_partition s.partitions ≡ true
  unfolding good
  test_parts h =
      let b = ((and-eq-true_iff (good_plan plan) (is_active plan s.focus && all_of good_partition s.partitions)).0 h).1 in
      ((and-eq-true_iff (is_active plan s.focus) (all_of good_partition s.partitions)).0 b).1

  pub test_all : good_plan plan ≡ true → is_active plan s.focus ≡ true → all_of good_partition s.partitions ≡ true → good plan s ≡ true
  unfolding good
  test_all a b c = rw (a, b, c)

module _ (w : World) (g : Good w) where
  -- ---- areas

  pub good-screens : (l : List ℕ) → length l ≡ length w.screens → Good (with_screens l w)
  good-screens l e =
      record {
        tested = g.tested;
        store_long = g.store_long;
        arena_long = g.arena_long;
        tables_long = g.tables_long;
        screens_long = e ∙ g.screens_long;
        image = g.image;
        seated = λ p a. let h = g.seated p a in record { found = h.found; same = h.same; formed = h.formed; user = h.user };
        mapped = λ row h. let m = g.mapped row h in record { path = m.path; free = m.free; found = m.found; titled = m.titled };
        untitled = g.untitled;
        tables_apart = g.tables_apart;
      }

  pub good-arena : (l : List ℕ) → length l ≡ length w.arena → Good (with_arena l w)
  good-arena l e =
      record {
        tested = g.tested;
        store_long = g.store_long;
        arena_long = e ∙ g.arena_long;
        tables_long = g.tables_long;
        screens_long = g.screens_long;
        image = g.image;
        seated = λ p a. let h = g.seated p a in record { found = h.found; same = h.same; formed = h.formed; user = h.user };
        mapped = λ row h. let m = g.mapped row h in record { path = m.path; free = m.free; found = m.found; titled = m.titled };
        untitled = g.untitled;
        tables_apart = g.tables_apart;
      }

  -- ---- the state

  -- who is logged in at q has a record
  abbrev Has : ℕ → Partition → Type 0
  Has q x = placed x.login.user (count (file_of w.terminal q w.store)) ≡ true

  pub good-state : (s : State) → all_of good_partition s.partitions ≡ true → is_active (plan_of w) s.focus ≡ true
      → ((q : ℕ) → is_active (plan_of w) q ≡ true → Has q (part_at s q)) → Good (with_terminal (with_state s w.terminal) w)
  unfolding with_state file_of table_of record_of partition_of
  good-state s parts focus users =
      record {
        tested = test_all (plan_of w) s (test_plan (plan_of w) w.terminal.state g.tested) focus parts;
        store_long = g.store_long;
        arena_long = g.arena_long;
        tables_long = g.tables_long;
        screens_long = g.screens_long;
        image = g.image;
        seated = λ p a. let h = g.seated p a in record { found = h.found; same = h.same; formed = h.formed; user = users p a };
        mapped = λ row h. let m = g.mapped row h in record { path = m.path; free = m.free; found = m.found; titled = m.titled };
        untitled = g.untitled;
        tables_apart = g.tables_apart;
      }

  had : (q : ℕ) → is_active (plan_of w) q ≡ true → Has q (part_at w.terminal.state q)
  unfolding record_of partition_of
  had q a = (g.seated q a).user

  all_good : all_of good_partition w.terminal.state.partitions ≡ true
  all_good = test_parts (plan_of w) w.terminal.state g.tested

  focused : is_active (plan_of w) w.terminal.state.focus ≡ true
  focused = test_focus (plan_of w) w.terminal.state g.tested

  -- one partition, with another login record
  users_with : (p : ℕ) (x : Partition) → (is_active (plan_of w) p ≡ true → Has p x)
      → (q : ℕ) → is_active (plan_of w) q ≡ true → Has q (part_at (with_part p x w.terminal.state) q)
  unfolding part_at with_part
  users_with p x user q a =
      by_set (Has q) w.terminal.state.partitions p q x no_partition
      (λ e. subst (λ (n : ℕ). is_active (plan_of w) n ≡ true → Has n x) e user a) (had q a)

  pub good_partition_lem : (p : ℕ) (x : Partition) → good_partition x ≡ true → (is_active (plan_of w) p ≡ true → Has p x)
      → Good (with_terminal (with_partition p x w.terminal) w)
  unfolding with_partition with_part
  good_partition_lem p x h user =
      good-state (with_part p x w.terminal.state) (all_set good_partition w.terminal.state.partitions p x all_good h) focused (users_with p x user)

  -- the partition of a call or an event is a good one
  pub seat_good : (p : ℕ) → good_partition (part_at w.terminal.state p) ≡ true
  seat_good p = part-good w.terminal.state p all_good

  -- one partition, with the same login record
  pub good-follows : (p : ℕ) (x : Partition) → Follows (part_at w.terminal.state p) x → Good (with_terminal (with_partition p x w.terminal) w)
  good-follows p x f = good_partition_lem p x f.0 (λ a. rw f.1 (had p a))

  -- a login record
  pub good_record_lem : (p : ℕ) (r : LoginRecord) → (is_active (plan_of w) p ≡ true → placed r.user (count (file_of w.terminal p w.store)) ≡ true)
      → Good (with_terminal (with_record p r w.terminal) w)
  unfolding with_record with_login partition_of good_partition
  good_record_lem p r user = good_partition_lem p (with_login r (part_at w.terminal.state p)) (seat_good p) user

  -- the stop marks
  pub good_stop : (off : Bool) → Good (with_terminal (with_state (with_stop off w.terminal.state) w.terminal) w)
  unfolding with_stop part_at
  good_stop off = good-state (with_stop off w.terminal.state) all_good focused had

  -- focus
  pub good-focus : (p : ℕ) → is_active (plan_of w) p ≡ true → Good (with_terminal (with_state (with_focus p w.terminal.state) w.terminal) w)
  unfolding with_focus part_at
  good-focus p a = good-state (with_focus p w.terminal.state) all_good a had
