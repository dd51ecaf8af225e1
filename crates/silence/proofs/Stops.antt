-- Shutdown, powerdown, logout and the events, behind the mask: none of them looks at a login record.
use Rattle.std.specs.Prelude.{Bool, ◌&&◌, ◌≡◌, ℕ, eqb, true, false, cond, List, [], ◌++◌, refl}
use Rattle.std.proofs.Common.{ap, sym, ◌∙◌}
use Rattle.state.specs.declared.LoginRecord.{LoginRecord}
use Rattle.state.specs.declared.Partition.{Partition}
use Rattle.state.specs.declared.Plan.{Plan}
use Rattle.state.specs.declared.State.{State}
use Rattle.state.specs.Empty.{nobody}
use Rattle.state.specs.Parts.{is_active, part_at, with_part, with_stop, with_focus, with_login, with_keyboard, with_cursor, with_fault}
use Rattle.guard.specs.Events as guard
use Rattle.console.specs.Console.{Drawn, drawing, drawn}
use Rattle.console.specs.Halt.{shown_message, notice, halt}
use Rattle.terminal.specs.declared.Terminal.{Terminal}
use Rattle.terminal.specs.Terminal.{answer, outcome, with_state, with_partition, partition_of, with_record, guard_of, differs}
use Rattle.terminal.specs.AccountCalls as accounts
use Rattle.terminal.specs.StopCalls as stops
use Rattle.terminal.specs.Events as events
use Rattle.silence.specs.Mask.{seen, mask_terminal}
use Rattle.silence.specs.Veil.{veiled, veil}
use Rattle.silence.proofs.Veil.{veil-part, veil-put, veil-good, veil-stopped, masked_state, masked_plan, masked_part, masked_put, masked_guard, masked_guard_by}
use Rattle.silence.specs.Worlds.{mask_answer, mask_outcome}
use Rattle.silence.proofs.Worlds.{settle-map}

pub cond_map : {A B : Type 0} (f : A → B) (b : Bool) (x y : A) → cond b (f x) (f y) ≡ f (cond b x y)
cond_map f true x y = refl
cond_map f false x y = refl

module _ (kept : Bool) (q : ℕ) where
  -- ---- shutdown and powerdown

  unfoldable shown_drawn : ℕ → Drawn → Drawn
  shown_drawn p d = drawing (veiled kept q p d.part) d.screens

  halt-veiled : (message : List ℕ) (p : ℕ) (x : Partition) (screens : List ℕ)
      → halt message p (veiled kept q p x) screens ≡ shown_drawn p (halt message p x screens)
  unfolding halt drawn veiled with_login with_cursor shown_drawn
  halt-veiled message p x screens = cond_map (shown_drawn p) x.screenfault (drawing x screens) (drawn (shown_message message ++ notice) p x screens)

  veil_off : (s : State) → (veil kept q s).off ≡ s.off
  unfolding veil with_part
  veil_off s = refl

  veil_stop : (off : Bool) (s : State) → with_stop off (veil kept q s) ≡ veil kept q (with_stop off s)
  unfolding veil with_part with_stop part_at
  veil_stop off s = refl

  relogin : (p : ℕ) (x : Partition) (r : LoginRecord) → cond (eqb p q) (seen kept r) r ≡ r → with_login r (veiled kept q p x) ≡ veiled kept q p (with_login r x)
  unfolding veiled with_login
  relogin p x r e = ap (λ (l : LoginRecord). with_login l x) (sym e)

  module _ (t : Terminal) (p : ℕ) where
    masked_stop : (off : Bool) → with_state (with_stop off (mask_terminal kept q t).state) (mask_terminal kept q t) ≡ mask_terminal kept q (with_state (with_stop off t.state) t)
    unfolding with_state
    masked_stop off =
        rw (masked_state kept q t, masked_state kept q (with_state (with_stop off t.state) t)) (ap (λ (s : State). with_state s t) (veil_stop off t.state))

    stopped_masked : (d : Drawn) → stops.stopped (mask_terminal kept q t) p (shown_drawn p d) ≡ mask_outcome kept q (stops.stopped t p d)
    unfolding stops.stopped shown_drawn mask_outcome mask_answer with_state veil with_part
    stopped_masked d =
        rw (masked_state kept q t, masked_state kept q (with_state (with_stop t.state.off (with_part p d.part t.state)) t))
        (ap (λ (s : State). outcome (answer 0 0 (with_state s t)) d.screens)
        (rw (veil_off t.state) (ap (with_stop t.state.off) (veil-put kept q t.state p d.part) ∙ veil_stop t.state.off (with_part p d.part t.state))))

    screens-guard : (screens : List ℕ)
        → guard_of (mask_terminal kept q t) (differs screens (mask_terminal kept q t).plan.kept.screens) p ≡ guard_of t (differs screens t.plan.kept.screens) p
    screens-guard screens = masked_guard_by kept q t (λ plan. differs screens plan.kept.screens) p

    pub shutdown_masked : (message screens : List ℕ)
        → stops.shutdown (mask_terminal kept q t) p message screens ≡ mask_outcome kept q (stops.shutdown t p message screens)
    unfolding stops.shutdown mask_outcome mask_answer
    shutdown_masked message screens =
        let n = guard_of t (differs screens t.plan.kept.screens) p in
        rw (screens-guard screens, masked_part kept q t p, halt-veiled message p (partition_of t p) screens, stopped_masked (halt message p (partition_of t p) screens))
        (settle-map (mask_outcome kept q) n (stops.stopped t p (halt message p (partition_of t p) screens)) (outcome (answer n 0 t) screens))

    off_masked : (screens : List ℕ) → stops.switched_off (mask_terminal kept q t) p screens ≡ mask_outcome kept q (stops.switched_off t p screens)
    unfolding stops.switched_off mask_outcome mask_answer
    off_masked screens =
        let n = guard_of t (differs screens t.plan.kept.screens) p in
        rw (screens-guard screens, masked_stop true)
        (settle-map (mask_outcome kept q) n (outcome (answer 0 0 (with_state (with_stop true t.state) t)) screens) (outcome (answer n 0 t) screens))

    pub powerdown_masked : (screens : List ℕ) → stops.powerdown (mask_terminal kept q t) p screens ≡ mask_outcome kept q (stops.powerdown t p screens)
    unfolding stops.powerdown
    powerdown_masked screens =
        rw (off_masked screens, shutdown_masked [] screens, masked_plan kept q t) (cond_map (mask_outcome kept q) t.plan.soft (stops.switched_off t p screens) (stops.shutdown t p [] screens))

    -- ---- a login record put behind the mask, where the mask does not change it

    pub masked_record : (r : LoginRecord) → cond (eqb p q) (seen kept r) r ≡ r → with_record p r (mask_terminal kept q t) ≡ mask_terminal kept q (with_record p r t)
    unfolding with_record
    masked_record r e =
        ap (λ (x : Partition). with_partition p x (mask_terminal kept q t)) (ap (with_login r) (masked_part kept q t p) ∙ relogin p (partition_of t p) r e)
        ∙ masked_put kept q t p (with_login r (partition_of t p))

    seen-nobody : cond (eqb p q) (seen kept nobody) nobody ≡ nobody
    unfolding seen
    seen-nobody = go (eqb p q) kept
      where
        go : (b k : Bool) → cond b (cond k nobody nobody) nobody ≡ nobody
        go true true = refl
        go true false = refl
        go false k = refl

    pub logout_masked : accounts.logout (mask_terminal kept q t) p ≡ mask_answer kept q (accounts.logout t p)
    unfolding accounts.logout mask_answer
    logout_masked =
        rw (masked_guard kept q t false p, masked_record nobody seen-nobody)
        (settle-map (mask_answer kept q) (guard_of t false p) (answer 0 0 (with_record p nobody t)) (answer (guard_of t false p) 0 t))

  -- ---- the events

  running-veiled : (plan : Plan) (s : State) → guard.running plan (veil kept q s) ≡ guard.running plan s
  unfolding guard.running
  running-veiled plan s = rw (veil-good kept q plan s, veil-stopped kept q s)

  veil-focus : (s : State) → (veil kept q s).focus ≡ s.focus
  unfolding veil with_part
  veil-focus s = refl

  focus-veiled : (p : ℕ) (s : State) → with_focus p (veil kept q s) ≡ veil kept q (with_focus p s)
  unfolding veil with_part with_focus part_at
  focus-veiled p s = refl

  typed-veiled : (byte p : ℕ) (x : Partition) → guard.typed byte (veiled kept q p x) ≡ veiled kept q p (guard.typed byte x)
  unfolding guard.typed veiled with_login with_keyboard
  typed-veiled byte p x = refl

  flag_veiled : (p device : ℕ) (flag : Bool) (x : Partition) → with_fault device flag (veiled kept q p x) ≡ veiled kept q p (with_fault device flag x)
  unfolding veiled with_login with_fault
  flag_veiled p device flag x = refl

  key-at : (byte : ℕ) (plan : Plan) (s : State) (at : ℕ)
      → cond (guard.running plan (veil kept q s)) (with_part at (guard.typed byte (part_at (veil kept q s) at)) (veil kept q s)) (veil kept q s)
      ≡ veil kept q (cond (guard.running plan s) (with_part at (guard.typed byte (part_at s at)) s) s)
  key-at byte plan s at =
      rw (running-veiled plan s, veil-part kept q s at, typed-veiled byte at (part_at s at), veil-put kept q s at)
      (cond_map (veil kept q) (guard.running plan s) (with_part at (guard.typed byte (part_at s at)) s) s)

  key-veiled : (byte : ℕ) (plan : Plan) (s : State) → guard.key byte plan (veil kept q s) ≡ veil kept q (guard.key byte plan s)
  unfolding guard.key
  key-veiled byte plan s =
      ap (λ (at : ℕ). cond (guard.running plan (veil kept q s)) (with_part at (guard.typed byte (part_at (veil kept q s) at)) (veil kept q s)) (veil kept q s)) (veil-focus s)
      ∙ key-at byte plan s s.focus

  attention-veiled : (plan : Plan) (s : State) → guard.attention plan (veil kept q s) ≡ veil kept q (guard.attention plan s)
  unfolding guard.attention veil with_part
  attention-veiled plan s =
      rw (running-veiled plan s, focus-veiled, veil-focus s)
      (cond_map (veil kept q) (guard.running plan s) (with_focus (guard.seek 8 plan (guard.behind plan s.focus)) s) s)

  fault-veiled : (p device : ℕ) (flag : Bool) (plan : Plan) (s : State) → guard.fault p device flag plan (veil kept q s) ≡ veil kept q (guard.fault p device flag plan s)
  unfolding guard.fault
  fault-veiled p device flag plan s =
      rw (running-veiled plan s, veil-part kept q s p, flag_veiled p device flag (part_at s p), veil-put kept q s p)
      (cond_map (veil kept q) (guard.running plan s && is_active plan p) (with_part p (with_fault device flag (part_at s p)) s) s)

  -- of a terminal
  pub state_masked : (t : Terminal) (f : Plan → State → State) → f t.plan (veil kept q t.state) ≡ veil kept q (f t.plan t.state)
      → with_state (f (mask_terminal kept q t).plan (mask_terminal kept q t).state) (mask_terminal kept q t) ≡ mask_terminal kept q (with_state (f t.plan t.state) t)
  unfolding with_state
  state_masked t f e = rw (masked_state kept q t, masked_state kept q (with_state (f t.plan t.state) t)) (ap (λ (s : State). with_state s t) e)

  pub key_masked : (byte : ℕ) (t : Terminal) → events.key byte (mask_terminal kept q t) ≡ mask_terminal kept q (events.key byte t)
  unfolding events.key
  key_masked byte t = state_masked t (guard.key byte) (key-veiled byte t.plan t.state)

  pub attention_masked : (t : Terminal) → events.attention (mask_terminal kept q t) ≡ mask_terminal kept q (events.attention t)
  unfolding events.attention
  attention_masked t = state_masked t guard.attention (attention-veiled t.plan t.state)

  pub fault_masked : (p device : ℕ) (flag : Bool) (t : Terminal) → events.fault p device flag (mask_terminal kept q t) ≡ mask_terminal kept q (events.fault p device flag t)
  unfolding events.fault
  fault_masked p device flag t = state_masked t (guard.fault p device flag) (fault-veiled p device flag t.plan t.state)
