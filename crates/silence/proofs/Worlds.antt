-- A call that answers behind the mask as it would have without it leaves the masked world that it would have left.
use Rattle.std.specs.Prelude.{Bool, true, false, [], ◌≡◌, refl, ℕ, eqb}
use Rattle.std.proofs.Common.{sym, ap}
use Rattle.checks.specs.Settle.{settle}
use Rattle.state.specs.declared.Plan.{Plan}
use Rattle.terminal.specs.declared.Terminal.{Terminal}
use Rattle.terminal.specs.declared.Answer.{Answer}
use Rattle.terminal.specs.Terminal.{Outcome}
use Rattle.steps.specs.World.{World, fills, answers, becomes, with_terminal}
use Rattle.silence.specs.Mask.{mask, mask_store, mask_tables, mask_terminal, mask_result}
use Rattle.silence.specs.Worlds.{mask_answer, mask_outcome}

-- what is done to both ways of a choice is done to the choice
pub settle-map : {A B : Type 0} (f : A → B) (n : ℕ) (x y : A) → settle n (f x) (f y) ≡ f (settle n x y)
unfolding settle
settle-map f n x y = go (eqb n 0) refl
  where
    go : (b : Bool) → eqb n 0 ≡ b → settle n (f x) (f y) ≡ f (settle n x y)
    go true e = rw e
    go false e = rw e

module _ (kept : Bool) (q : ℕ) (w : World) where
  -- only the terminal changes, and its plan stays
  pub masked_world : (t : Terminal) → t.plan ≡ w.terminal.plan → with_terminal (mask_terminal kept q t) (mask kept q w) ≡ mask kept q (with_terminal t w)
  unfolding mask
  masked_world t e =
      ap (λ (plan : Plan). record {
        terminal = mask_terminal kept q t;
        permissions = w.permissions;
        store = mask_store q plan w.store;
        arena = w.arena;
        tables = mask_tables q plan w.tables;
        screens = w.screens;
      }) (sym e)

  pub fills_masked : (o : Outcome) → o.answer.terminal.plan ≡ w.terminal.plan → fills (mask kept q w) (mask_outcome kept q o) ≡ mask_result kept q (fills w o)
  unfolding fills mask_outcome mask_answer mask_result
  fills_masked o e =
      ap (λ (v : World). record { number = o.answer.number; count = o.answer.count; buffer = o.lent; world = v }) (masked_world o.answer.terminal e)

  pub answers_masked : (a : Answer) → a.terminal.plan ≡ w.terminal.plan → answers (mask kept q w) (mask_answer kept q a) ≡ mask_result kept q (answers w a)
  unfolding answers mask_answer mask_result
  answers_masked a e = ap (λ (v : World). record { number = a.number; count = a.count; buffer = []; world = v }) (masked_world a.terminal e)

  pub becomes_masked : (t : Terminal) → t.plan ≡ w.terminal.plan → becomes (mask kept q w) (mask_terminal kept q t) ≡ mask_result kept q (becomes w t)
  unfolding becomes mask_result
  becomes_masked t e = ap (λ (v : World). record { number = 0; count = 0; buffer = []; world = v }) (masked_world t e)
