-- The terminal behind the mask: the plan and the guard are as they were, and each partition is as it was but for a login record.
use Rattle.std.specs.Prelude.{Bool, ◌≢◌, ◌≡◌, get_or, set, true, false, List, [], ◌∷◌, refl, ℕ, zero, suc, eqb}
use Rattle.std.proofs.Common.{sym, ap, ◌∙◌, eqb-true, get_or-set_other}
use Rattle.std.proofs.lemmas.Bool.{eqb-false}
use Rattle.std.proofs.lemmas.List.{set_comm}
use Rattle.state.specs.declared.LoginRecord.{LoginRecord}
use Rattle.state.specs.declared.Partition.{Partition}
use Rattle.state.specs.declared.State.{State}
use Rattle.state.specs.declared.Plan.{Plan}
use Rattle.state.specs.Empty.{nobody, no_partition}
use Rattle.state.specs.Parts.{part_at, with_part, with_login}
use Rattle.guard.specs.Test.{all_of, good_partition, good}
use Rattle.guard.specs.Guard.{guard}
use Rattle.terminal.specs.declared.Terminal.{Terminal}
use Rattle.terminal.specs.Terminal.{with_state, with_partition, partition_of, record_of, with_record, guard_of}
use Rattle.silence.specs.Mask.{seen, mask_terminal}
use Rattle.silence.specs.Veil.{veiled, veil}

module _ (kept : Bool) (q : ℕ) where
  -- the mask in those words
  pub masked_state : (t : Terminal) → mask_terminal kept q t ≡ with_state (veil kept q t.state) t
  unfolding mask_terminal with_record with_partition record_of partition_of veil
  masked_state t = refl

  blank_none : with_login (seen kept no_partition.login) no_partition ≡ no_partition
  unfolding with_login seen
  blank_none = go kept
    where
      go : (k : Bool) → with_login (seen k no_partition.login) no_partition ≡ no_partition
      go true = refl
      go false = refl

  set-none : (l : List Partition) (i : ℕ) → get_or (set l i (with_login (seen kept (get_or l i no_partition).login) (get_or l i no_partition))) i no_partition
      ≡ with_login (seen kept (get_or l i no_partition).login) (get_or l i no_partition)
  set-none [] i = sym blank_none
  set-none (x ∷ l) zero = refl
  set-none (x ∷ l) (suc i) = set-none l i

  pub veil-part : (s : State) (p : ℕ) → part_at (veil kept q s) p ≡ veiled kept q p (part_at s p)
  unfolding veil part_at with_part veiled with_login
  veil-part s p = go (eqb p q) refl
    where
      go : (b : Bool) → eqb p q ≡ b → part_at (veil kept q s) p ≡ veiled kept q p (part_at s p)
      go true e = rw (e, eqb-true p q e) (set-none s.partitions q)
      go false e = rw e (get_or-set_other s.partitions q p _ no_partition (eqb-false p q e))

  -- ---- a partition put back behind the mask

  set-veiled : (l : List Partition) (i : ℕ) (x : Partition)
      → set (set l i (with_login (seen kept (get_or l i no_partition).login) (get_or l i no_partition))) i (with_login (seen kept x.login) x)
      ≡ set (set l i x) i (with_login (seen kept (get_or (set l i x) i no_partition).login) (get_or (set l i x) i no_partition))
  set-veiled [] i x = refl
  set-veiled (y ∷ l) zero x = refl
  set-veiled (y ∷ l) (suc i) x = ap (λ (r : List Partition). y ∷ r) (set-veiled l i x)

  pub veil-put : (s : State) (p : ℕ) (x : Partition) → with_part p (veiled kept q p x) (veil kept q s) ≡ veil kept q (with_part p x s)
  unfolding veil part_at with_part veiled with_login
  veil-put s p x = go (eqb p q) refl
    where
      go : (b : Bool) → eqb p q ≡ b → with_part p (veiled kept q p x) (veil kept q s) ≡ veil kept q (with_part p x s)
      go true e = rw (e, eqb-true p q e, set-veiled s.partitions q x)
      go false e =
          let n = eqb-false p q e in
          let m : q ≢ p = λ z. n (sym z) in
          rw (e, get_or-set_other s.partitions p q x no_partition m)
          (ap (λ (l : List Partition). record { partitions = l; focus = s.focus; stopped = s.stopped; off = s.off }) (set_comm s.partitions q p _ x m))

  -- ---- the state test and the guard

  all_veiled : (l : List Partition) (i : ℕ)
      → all_of good_partition (set l i (with_login (seen kept (get_or l i no_partition).login) (get_or l i no_partition))) ≡ all_of good_partition l
  unfolding all_of good_partition with_login
  all_veiled [] i = refl
  all_veiled (x ∷ l) zero = refl
  all_veiled (x ∷ l) (suc i) = rw (all_veiled l i)

  pub veil-good : (plan : Plan) (s : State) → good plan (veil kept q s) ≡ good plan s
  unfolding veil part_at with_part good
  veil-good plan s = rw (all_veiled s.partitions q)

  pub veil-stopped : (s : State) → (veil kept q s).stopped ≡ s.stopped
  unfolding veil with_part
  veil-stopped s = refl

  pub veil-guard : (plan : Plan) (s : State) (wrong : Bool) (p : ℕ) → guard plan (veil kept q s) wrong p ≡ guard plan s wrong p
  unfolding guard
  veil-guard plan s wrong p = rw (veil-good plan s, veil-stopped s)

  -- ---- the same of a terminal

  pub masked_plan : (t : Terminal) → (mask_terminal kept q t).plan ≡ t.plan
  unfolding mask_terminal with_record with_partition with_state
  masked_plan t = refl

  pub masked_part : (t : Terminal) (p : ℕ) → partition_of (mask_terminal kept q t) p ≡ veiled kept q p (partition_of t p)
  unfolding with_state partition_of
  masked_part t p = rw (masked_state t) (veil-part t.state p)

  pub masked_put : (t : Terminal) (p : ℕ) (x : Partition) → with_partition p (veiled kept q p x) (mask_terminal kept q t) ≡ mask_terminal kept q (with_partition p x t)
  unfolding with_state with_partition
  masked_put t p x =
      rw (masked_state t, masked_state (with_partition p x t)) (ap (λ (s : State). with_state s t) (veil-put t.state p x))

  pub masked_guard : (t : Terminal) (wrong : Bool) (p : ℕ) → guard_of (mask_terminal kept q t) wrong p ≡ guard_of t wrong p
  unfolding with_state guard_of
  masked_guard t wrong p = rw (masked_state t) (veil-guard t.plan t.state wrong p)

  -- with a test that looks at the plan
  pub masked_guard_by : (t : Terminal) (wrong : Plan → Bool) (p : ℕ) → guard_of (mask_terminal kept q t) (wrong (mask_terminal kept q t).plan) p ≡ guard_of t (wrong t.plan) p
  masked_guard_by t wrong p =
      masked_guard t (wrong (mask_terminal kept q t).plan) p ∙ ap (λ (plan : Plan). guard_of t (wrong plan) p) (masked_plan t)

-- ---- a login record that is blanked does not matter

set-blank : (l : List Partition) (i : ℕ) (r n : LoginRecord)
    → set (set l i (with_login r (get_or l i no_partition))) i (with_login n (get_or (set l i (with_login r (get_or l i no_partition))) i no_partition))
    ≡ set l i (with_login n (get_or l i no_partition))
unfolding with_login
set-blank [] i r n = refl
set-blank (x ∷ l) zero r n = refl
set-blank (x ∷ l) (suc i) r n = ap (λ (m : List Partition). x ∷ m) (set-blank l i r n)

pub record_twice : (q : ℕ) (r n : LoginRecord) (t : Terminal) → with_record q n (with_record q r t) ≡ with_record q n t
unfolding with_record with_partition with_state partition_of part_at with_part
record_twice q r n t = rw (set-blank t.state.partitions q r n)

pub record_plan : (q : ℕ) (r : LoginRecord) (t : Terminal) → (with_record q r t).plan ≡ t.plan
unfolding with_record with_partition with_state
record_plan q r t = refl

pub record_blanked : (q : ℕ) (r : LoginRecord) (t : Terminal) → mask_terminal false q (with_record q r t) ≡ mask_terminal false q t
unfolding mask_terminal seen
record_blanked q r t = record_twice q r nobody t
