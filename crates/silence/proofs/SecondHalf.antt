-- Demand 3, its second half: "If besides each of its logins gets the same answer number, and each of its new passwords is allowed in both or in neither, then those
-- answers, their work counts and the login record are the same too."
use Rattle.std.specs.Prelude.{true, ◌≡◌, ℕ, List, [], map, refl}
use Rattle.std.proofs.Common.{sym, ap, ◌∙◌}
use Rattle.state.specs.Parts.{is_active}
use Rattle.accounts.specs.Strings.{is_string}
use Rattle.terminal.specs.AccountCalls as accounts
use Rattle.steps.specs.World.{World, Move, Result, answers, step, run, after}
use Rattle.steps.specs.World.Move.{Login, Who, SetPassword}
use Rattle.good.specs.Good.{Good}
use Rattle.silence.specs.Mask.{mask, mask_result}
use Rattle.silence.proofs.Own.{set_invisible}
use Rattle.silence.proofs.Runs.{same-active, same_results, active-after}
use Rattle.silence.specs.Kept.{shown_login}
use Rattle.silence.proofs.Kept.{kept-terminal, who-own, login-own, set_own}
use Rattle.silence.specs.SecondHalf.{Fair, FairRuns}
use Rattle.silence.specs.SecondHalf.Fair.{others, asks, logins, changes}
use Rattle.silence.specs.SecondHalf.FairRuns.{none, more}

-- the whole terminal is seen behind this mask, q's login record with it
pub same-terminal : (q : ℕ) (w v : World) → mask true q w ≡ mask true q v → w.terminal ≡ v.terminal
unfolding mask
same-terminal q w v e = sym (kept-terminal q w.terminal) ∙ ap (λ (x : World). x.terminal) e ∙ kept-terminal q v.terminal

results : (n m c d : ℕ) (b l : List ℕ) (x y : World) → n ≡ m → c ≡ d → b ≡ l → x ≡ y
    → ◌≡◌ {A = Result} (record { number = n; count = c; buffer = b; world = x }) (record { number = m; count = d; buffer = l; world = y })
results n m c d b l x y e f g h = rw (e, f, g, h)

module _ (q : ℕ) (w v : World) (g : Good w) (h : Good v) (a : is_active w.terminal.plan q ≡ true) (e : mask true q w ≡ mask true q v) where
  same_change : (password other : List ℕ) (taken : ℕ) → is_string password ≡ is_string other
      → mask_result true q (step w (SetPassword q password taken)) ≡ mask_result true q (step v (SetPassword q other taken))
  unfolding mask_result step answers accounts.set_password accounts.replaced
  same_change password other taken allowed =
      results _ _ 0 0 [] [] _ _
      (set_own q w password other taken allowed ∙ ap (λ (x : World). (step x (SetPassword q other taken)).number) e ∙ sym (set_own q v other other taken refl))
      refl refl
      (set_invisible true q w (g.seated q a).same password taken ∙ e ∙ sym (set_invisible true q v (h.seated q (same-active true q w v e a)).same other taken))

  -- the same number, count and buffer, whatever the move, and worlds that look alike again, with the login record
  pub second_half : {m n : Move} → Fair q w v m n → mask_result true q (step w m) ≡ mask_result true q (step v n)
  second_half (others m o) = same_results true q w v m g h a e o
  second_half (asks buffer) = sym (who-own q w buffer) ∙ ap (λ (x : World). step x (Who q buffer)) e ∙ who-own q v buffer
  second_half (logins name password other number) =
      sym (login-own q w name password)
      ∙ ap (λ (x : World). shown_login q name x (step w (Login q name password)).number) e
      ∙ ap (shown_login q name (mask true q v)) number
      ∙ login-own q v name other
  second_half (changes password other taken allowed) = same_change password other taken allowed

module _ (good-step : (w : World) (m : Move) → Good w → Good (step w m).world) (q : ℕ) where
  world_of_lem : (w v : World) (m n : Move) → mask_result true q (step w m) ≡ mask_result true q (step v n) → mask true q (step w m).world ≡ mask true q (step v n).world
  unfolding mask_result
  world_of_lem w v m n e = ap (λ (r : Result). r.world) e

  pub runs_same : {w v : World} {ms ns : List Move} → Good w → Good v → is_active w.terminal.plan q ≡ true → mask true q w ≡ mask true q v
      → FairRuns q w v ms ns → map (mask_result true q) (run w ms) ≡ map (mask_result true q) (run v ns)
  unfolding run
  runs_same g h a e none = refl
  runs_same g h a e (more {w} {v} {m} {n} {ms} {ns} f rest) =
      let s = second_half q w v g h a e f in
      rw (s, runs_same (good-step w m g) (good-step v n h) (active-after w m q a) (world_of_lem w v m n s) rest)

  pub terminals_same : {w v : World} {ms ns : List Move} → Good w → Good v → is_active w.terminal.plan q ≡ true → mask true q w ≡ mask true q v
      → FairRuns q w v ms ns → mask true q (after w ms) ≡ mask true q (after v ns)
  unfolding after
  terminals_same g h a e none = e
  terminals_same g h a e (more {w} {v} {m} {n} {ms} {ns} f rest) =
      terminals_same (good-step w m g) (good-step v n h) (active-after w m q a)
      (world_of_lem w v m n (second_half q w v g h a e f)) rest
