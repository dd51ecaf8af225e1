-- Demand 3, one step: every move that is not q's own login, who or set-password gives the same number, count and buffer behind the mask of q's digests (and of
-- q's login record, unless it is kept), and leaves the world that it would have left, behind the mask.
use Rattle.std.specs.Prelude.{Bool, true, false, List, ◌≡◌, ℕ}
use Rattle.std.proofs.Common.{ap, ◌∙◌}
use Rattle.state.specs.Parts.{is_active}
use Rattle.terminal.specs.declared.Terminal.{Terminal}
use Rattle.terminal.specs.declared.Answer.{Answer}
use Rattle.terminal.specs.Terminal.{Outcome}
use Rattle.terminal.specs.DeviceCalls as devices
use Rattle.terminal.specs.MemoryCalls as memory
use Rattle.terminal.specs.AccountCalls as accounts
use Rattle.terminal.specs.StopCalls as stops
use Rattle.terminal.specs.Events as events
use Rattle.steps.specs.World.{World, Move, fills, answers, becomes, step, with_screens, with_arena, with_store, with_tables}
use Rattle.steps.specs.World.Move.{ReadNext, ReadRandom, WriteNext, WriteRandom, Load, Store, Flush, Login, Who, Logout, SetPassword, Shutdown, Powerdown, Configuration, Key, Attention, Fault}
use Rattle.good.specs.Good.{Good}
use Rattle.silence.specs.Mask.{mask, mask_terminal, mask_result, own}
use Rattle.good.specs.Stays.{plan-step}
use Rattle.silence.specs.Worlds.{mask_answer, mask_outcome}
use Rattle.silence.proofs.Worlds.{fills_masked, answers_masked, becomes_masked}
use Rattle.silence.proofs.Devices.{read_next_masked, read_random_masked, write_next_masked, write_random_masked}
use Rattle.silence.proofs.Stops.{shutdown_masked, powerdown_masked, logout_masked, key_masked, attention_masked, fault_masked}
use Rattle.silence.proofs.Memory.{load_masked, store_masked, flush_masked}
use Rattle.silence.proofs.Database.{configuration_masked}
use Rattle.silence.specs.Others.{mask_written}
use Rattle.silence.proofs.Others.{login-other, who-other, set_other}

module _ (kept : Bool) (q : ℕ) (w : World) where
  -- ---- from a call to its step

  -- a call that fills a buffer
  pub filled : (o hidden : Outcome) → hidden ≡ mask_outcome kept q o → o.answer.terminal.plan ≡ w.terminal.plan
      → fills (mask kept q w) hidden ≡ mask_result kept q (fills w o)
  filled o hidden e plan = ap (fills (mask kept q w)) e ∙ fills_masked kept q w o plan

  pub answered : (x hidden : Answer) → hidden ≡ mask_answer kept q x → x.terminal.plan ≡ w.terminal.plan
      → answers (mask kept q w) hidden ≡ mask_result kept q (answers w x)
  answered x hidden e plan = ap (answers (mask kept q w)) e ∙ answers_masked kept q w x plan

  -- one that writes to the screens, the arena, the store, or the store and the tables
  screened : (o hidden : Outcome) → hidden ≡ mask_outcome kept q o → o.answer.terminal.plan ≡ w.terminal.plan
      → answers (with_screens hidden.lent (mask kept q w)) hidden.answer ≡ mask_result kept q (answers (with_screens o.lent w) o.answer)
  unfolding mask mask_outcome
  screened o hidden e plan =
      ap (λ (x : Outcome). answers (with_screens x.lent (mask kept q w)) x.answer) e ∙ answers_masked kept q (with_screens o.lent w) o.answer plan

  stored : (o hidden : Outcome) → hidden ≡ mask_outcome kept q o → o.answer.terminal.plan ≡ w.terminal.plan
      → answers (with_arena hidden.lent (mask kept q w)) hidden.answer ≡ mask_result kept q (answers (with_arena o.lent w) o.answer)
  unfolding mask mask_outcome
  stored o hidden e plan =
      ap (λ (x : Outcome). answers (with_arena x.lent (mask kept q w)) x.answer) e ∙ answers_masked kept q (with_arena o.lent w) o.answer plan

  moved : (t hidden : Terminal) → hidden ≡ mask_terminal kept q t → t.plan ≡ w.terminal.plan → becomes (mask kept q w) hidden ≡ mask_result kept q (becomes w t)
  moved t hidden e plan = ap (becomes (mask kept q w)) e ∙ becomes_masked kept q w t plan

module _ (kept : Bool) (q : ℕ) (w : World) (g : Good w) (a : is_active w.terminal.plan q ≡ true) where
  flush_commutes : (p selector taken : ℕ) → step (mask kept q w) (Flush p selector taken) ≡ mask_result kept q (step w (Flush p selector taken))
  unfolding step answers mask
  flush_commutes p selector taken =
      let o = memory.flush w.terminal w.permissions p selector taken w.arena w.store in
      ap (λ (x : Outcome). answers (with_store x.lent (mask kept q w)) x.answer) (flush_masked kept q w g a p selector taken)
      ∙ answers_masked kept q (with_store o.lent w) o.answer (plan-step w (Flush p selector taken))

  set_commutes : (p : ℕ) (password : List ℕ) (taken : ℕ) → own q (SetPassword p password taken) ≡ false
      → step (mask kept q w) (SetPassword p password taken) ≡ mask_result kept q (step w (SetPassword p password taken))
  unfolding step answers mask own accounts.set_password accounts.replaced mask_written
  set_commutes p password taken other =
      let o = accounts.set_password w.terminal p password taken w.store w.tables in
      ap (λ (x : accounts.Written). answers (with_tables x.tables (with_store x.store (mask kept q w))) x.answer) (set_other kept q w g a p other password taken)
      ∙ answers_masked kept q (with_tables o.tables (with_store o.store w)) o.answer (plan-step w (SetPassword p password taken))

pub others_commute : (kept : Bool) (q : ℕ) (w : World) (m : Move) → Good w → is_active w.terminal.plan q ≡ true → own q m ≡ false
    → step (mask kept q w) m ≡ mask_result kept q (step w m)
unfolding step fills answers becomes mask own
others_commute kept q w (ReadNext p major minor request buffer) g a e =
    filled kept q w (devices.read_next w.terminal p major minor request buffer) _
    (read_next_masked kept q w.terminal p major minor request buffer) (plan-step w (ReadNext p major minor request buffer))
others_commute kept q w (ReadRandom p major minor offset request buffer) g a e =
    filled kept q w (devices.read_random w.terminal p major minor offset request w.screens buffer) _
    (read_random_masked kept q w.terminal p major minor offset request w.screens buffer) (plan-step w (ReadRandom p major minor offset request buffer))
others_commute kept q w (WriteNext p major minor request bytes) g a e =
    screened kept q w (devices.write_next w.terminal p major minor request bytes w.screens) _
    (write_next_masked kept q w.terminal p major minor request bytes w.screens) (plan-step w (WriteNext p major minor request bytes))
others_commute kept q w (WriteRandom p major minor offset request bytes) g a e =
    screened kept q w (devices.write_random w.terminal p major minor offset request bytes w.screens) _
    (write_random_masked kept q w.terminal p major minor offset request bytes w.screens) (plan-step w (WriteRandom p major minor offset request bytes))
others_commute kept q w (Load p selector offset buffer) g a e =
    filled kept q w (memory.load w.terminal w.permissions p selector offset w.arena buffer) _
    (load_masked kept q w.terminal w.permissions p selector offset w.arena buffer) (plan-step w (Load p selector offset buffer))
others_commute kept q w (Store p selector offset bytes) g a e =
    stored kept q w (memory.store w.terminal w.permissions p selector offset bytes w.arena) _
    (store_masked kept q w.terminal w.permissions p selector offset bytes w.arena) (plan-step w (Store p selector offset bytes))
others_commute kept q w (Flush p selector taken) g a e = flush_commutes kept q w g a p selector taken
others_commute kept q w (Login p name password) g a e =
    answered kept q w (accounts.login w.terminal p name password w.tables) _
    (login-other kept q w g a p e name password) (plan-step w (Login p name password))
others_commute kept q w (Who p buffer) g a e =
    filled kept q w (accounts.who w.terminal p w.tables buffer) _
    (who-other kept q w g a p e buffer) (plan-step w (Who p buffer))
others_commute kept q w (Logout p) g a e =
    answered kept q w (accounts.logout w.terminal p) _
    (logout_masked kept q w.terminal p) (plan-step w (Logout p))
others_commute kept q w (SetPassword p password taken) g a e = set_commutes kept q w g a p password taken e
others_commute kept q w (Shutdown p message) g a e =
    screened kept q w (stops.shutdown w.terminal p message w.screens) _
    (shutdown_masked kept q w.terminal p message w.screens) (plan-step w (Shutdown p message))
others_commute kept q w (Powerdown p) g a e =
    screened kept q w (stops.powerdown w.terminal p w.screens) _
    (powerdown_masked kept q w.terminal p w.screens) (plan-step w (Powerdown p))
others_commute kept q w (Configuration p buffer) g a e =
    filled kept q w (memory.configuration w.terminal w.permissions p w.store buffer) _
    (configuration_masked kept q w g a p buffer) (plan-step w (Configuration p buffer))
others_commute kept q w (Key byte) g a e =
    moved kept q w (events.key byte w.terminal) _
    (key_masked kept q byte w.terminal) (plan-step w (Key byte))
others_commute kept q w Attention g a e =
    moved kept q w (events.attention w.terminal) _
    (attention_masked kept q w.terminal) (plan-step w Attention)
others_commute kept q w (Fault p device set) g a e =
    moved kept q w (events.fault p device set w.terminal) _
    (fault_masked kept q p device set w.terminal) (plan-step w (Fault p device set))
