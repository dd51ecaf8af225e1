-- One partition of the state replaced: a good one by a good one leaves all good, and what the devices do to a partition leaves it good and its login
-- record as it was.
use Rattle.std.specs.Prelude.{Bool, true, ◌≡◌, ltb, leb, get_or, set, take, List, [], ◌∷◌, ◌++◌, refl, ℕ, zero, suc, ◌≤◌, ◌<◌}
use Rattle.std.proofs.Common.{ap, arith, ltb-true, leb-true, lt-ltb, le-leb}
use Rattle.std.proofs.Math.Bool.{and-eq-true_iff}
use Rattle.checks.specs.Settle.{by_settle}
use Rattle.devices.specs.declared.keyboard.Keyboard.{Keyboard}
use Rattle.devices.specs.Choice.{by_cond}
use Rattle.devices.specs.Queue.{no_keys, held, queue_add, queue_drop, take_out, queue_take}
use Rattle.devices.specs.Screen.{Screen, screen, put_all, is_screen, on_screen}
use Rattle.devices.specs.ScreenLaws.{is_screen_facts, put_all-screen}
use Rattle.state.specs.declared.Partition.{Partition}
use Rattle.state.specs.declared.State.{State}
use Rattle.state.specs.Empty.{no_partition}
use Rattle.state.specs.Parts.{part_at, with_keyboard, with_cursor, with_fault}
use Rattle.guard.specs.Test.{all_of, good_partition}
use Rattle.guard.specs.Events.{typed}
use Rattle.console.specs.Console.{Outcome, refusal, keys_taken, read_next, cells_of, cells_moved, read_random, write_random, Drawn, drawn, bytes_put, write_next}
use Rattle.console.specs.Halt.{shown_message, notice, halt}

-- ---- lists

module _ {A : Type 0} (f : A → Bool) where
  pub all_set : (l : List A) (p : ℕ) (x : A) → all_of f l ≡ true → f x ≡ true → all_of f (set l p x) ≡ true
  unfolding all_of
  all_set [] p x h e = h
  all_set (y ∷ l) zero x h e = rw (e, ((and-eq-true_iff (f y) (all_of f l)).0 h).1)
  all_set (y ∷ l) (suc p) x h e =
      let b = (and-eq-true_iff (f y) (all_of f l)).0 h in
      rw (b.0, all_set l p x b.1 e)

  pub all_nth : (l : List A) (p : ℕ) (d : A) → all_of f l ≡ true → f d ≡ true → f (get_or l p d) ≡ true
  unfolding all_of
  all_nth [] p d h e = e
  all_nth (y ∷ l) zero d h e = ((and-eq-true_iff (f y) (all_of f l)).0 h).0
  all_nth (y ∷ l) (suc p) d h e = all_nth l p d ((and-eq-true_iff (f y) (all_of f l)).0 h).1 e

-- what holds of the new element, and of the old one at q, holds of the one at q afterwards
pub by_set : {A : Type 0} (P : A → Type 0) (l : List A) (p q : ℕ) (x d : A) → (p ≡ q → P x) → P (get_or l q d) → P (get_or (set l p x) q d)
by_set P [] p q x d new old = old
by_set P (y ∷ l) zero zero x d new old = new refl
by_set P (y ∷ l) zero (suc q) x d new old = old
by_set P (y ∷ l) (suc p) zero x d new old = old
by_set P (y ∷ l) (suc p) (suc q) x d new old = by_set P l p q x d (λ e. new (ap suc e)) old

-- ---- one partition

pub part-good : (s : State) (p : ℕ) → all_of good_partition s.partitions ≡ true → good_partition (part_at s p) ≡ true
unfolding part_at good_partition no_keys
part-good s p h = all_nth good_partition s.partitions p no_partition h refl

-- a good partition's cursor and queue, as facts
pub is_good : (x : Partition) → x.cursor < 2000 → x.keyboard.held ≤ 64 → good_partition x ≡ true
unfolding good_partition
is_good x c k = rw (lt-ltb _ _ c, le-leb _ _ k)

pub good-cursor : (x : Partition) → good_partition x ≡ true → x.cursor < 2000
unfolding good_partition
good-cursor x h = ltb-true _ _ ((and-eq-true_iff (ltb x.cursor 2000) (leb x.keyboard.held 64)).0 h).0

pub good-held : (x : Partition) → good_partition x ≡ true → x.keyboard.held ≤ 64
unfolding good_partition
good-held x h = leb-true _ _ ((and-eq-true_iff (ltb x.cursor 2000) (leb x.keyboard.held 64)).0 h).1

-- good as before, with the same login record
abbrev pub Follows : Partition → Partition → Type 0
Follows x y = (good_partition y ≡ true) × (y.login ≡ x.login)

module _ (x : Partition) (h : good_partition x ≡ true) where
  pub typed-follows : (byte : ℕ) → Follows x (typed byte x)
  unfolding typed with_keyboard queue_add
  typed-follows byte =
      let room = good-held x h in (
        is_good (typed byte x) (good-cursor x h)
            (by_cond (λ (k : Keyboard). k.held ≤ 64) (ltb x.keyboard.held 64) (λ e. omega (arith, ltb-true x.keyboard.held 64 e)) (λ e. room)),
        refl,
      )

  pub fault-follows : (device : ℕ) (flag : Bool) → Follows x (with_fault device flag x)
  unfolding with_fault
  fault-follows device flag = (is_good (with_fault device flag x) (good-cursor x h) (good-held x h), refl)

  pub read_next-follows : (n p major minor request : ℕ) (buffer : List ℕ) → Follows x (read_next n x p major minor request buffer).reply.part
  unfolding read_next keys_taken refusal queue_take take_out queue_drop held with_keyboard
  read_next-follows n p major minor request buffer =
      by_settle (λ (o : Outcome). Follows x o.reply.part) _
      (λ e. (is_good (with_keyboard (queue_take request x.keyboard buffer).keyboard x) (good-cursor x h) (omega arith), refl))
      (λ e. (h, refl))

  pub read_random-follows : (n p major minor offset request : ℕ) (screens buffer : List ℕ)
      → Follows x (read_random n x p major minor offset request screens buffer).reply.part
  unfolding read_random cells_moved refusal
  read_random-follows n p major minor offset request screens buffer =
      by_settle (λ (o : Outcome). Follows x o.reply.part) _ (λ e. (h, refl)) (λ e. (h, refl))

  pub write_random-follows : (n p major minor offset request : ℕ) (bytes screens : List ℕ)
      → Follows x (write_random n x p major minor offset request bytes screens).reply.part
  unfolding write_random cells_moved refusal
  write_random-follows n p major minor offset request bytes screens =
      by_settle (λ (o : Outcome). Follows x o.reply.part) _ (λ e. (h, refl)) (λ e. (h, refl))

  drawn-cursor : (bytes cells : List ℕ) → (on_screen (put_all bytes) (screen cells x.cursor)).cursor < 2000
  unfolding on_screen
  drawn-cursor bytes cells =
      by_cond (λ (s : Screen). s.cursor < 2000) (is_screen (screen cells x.cursor))
      (λ e. (put_all-screen bytes (screen cells x.cursor) (is_screen_facts (screen cells x.cursor) e)).1)
      (λ e. good-cursor x h)

  pub drawn-follows : (bytes : List ℕ) (p : ℕ) (screens : List ℕ) → Follows x (drawn bytes p x screens).part
  unfolding drawn with_cursor
  drawn-follows bytes p screens =
      (is_good (drawn bytes p x screens).part (drawn-cursor bytes (cells_of p screens)) (good-held x h), refl)

  pub write_next-follows : (n p major minor request : ℕ) (bytes screens : List ℕ) → Follows x (write_next n x p major minor request bytes screens).reply.part
  unfolding write_next bytes_put refusal
  write_next-follows n p major minor request bytes screens =
      by_settle (λ (o : Outcome). Follows x o.reply.part) _ (λ e. drawn-follows (take request bytes) p screens) (λ e. (h, refl))

  pub halt-follows : (message : List ℕ) (p : ℕ) (screens : List ℕ) → Follows x (halt message p x screens).part
  unfolding halt
  halt-follows message p screens =
      by_cond (λ (d : Drawn). Follows x d.part) x.screenfault (λ e. (h, refl)) (λ e. drawn-follows (shown_message message ++ notice) p screens)
