-- Demand 3, its first half: "Run two terminals that start alike and receive like events and calls, except for the digests in one active partition's password file
-- and the passwords in that partition's login and set-password calls. Everything is the same in both but that file on the store and in memory, that partition's
-- login record, its answers to login, who and set-password, and the buffer who fills."
use Rattle.std.specs.Prelude.{Bool, true, List, ◌≡◌, refl, ℕ, false}
use Rattle.std.proofs.Common.{sym, ◌∙◌, eq-eqb, ap}
use Rattle.std.proofs.lemmas.Bool.{false≢true}
use Rattle.rows.specs.LikeLaws.{by_test}
use Rattle.state.specs.declared.Plan.{Plan}
use Rattle.state.specs.Parts.{is_active}
use Rattle.steps.specs.World.{World, Move, Result, step, run, after}
use Rattle.steps.specs.World.Move.{Login, SetPassword}
use Rattle.good.specs.Good.{Good}
use Rattle.silence.specs.Mask.{mask, mask_result, own}
use Rattle.silence.proofs.Veil.{masked_plan}
use Rattle.good.specs.Stays.{plan-step}
use Rattle.silence.proofs.Own.{own_invisible}
use Rattle.silence.proofs.Commute.{others_commute}
use Rattle.silence.specs.Runs.{Alike, SeenAlike, AllAlike, AllSeenAlike}
use Rattle.silence.specs.Runs.Alike.{same, logins, changes}
use Rattle.silence.specs.Runs.AllAlike.{none, more}
use Rattle.silence.specs.Runs.AllSeenAlike.{none, more}

-- ---- who is active stays so

pub active-after : (w : World) (m : Move) (q : ℕ) → is_active w.terminal.plan q ≡ true → is_active (step w m).world.terminal.plan q ≡ true
active-after w m q a = ap (λ (plan : Plan). is_active plan q) (plan-step w m) ∙ a

-- worlds that look alike have the same plan
pub same-plan : (kept : Bool) (q : ℕ) (w v : World) → mask kept q w ≡ mask kept q v → w.terminal.plan ≡ v.terminal.plan
unfolding mask
same-plan kept q w v e =
    sym (masked_plan kept q w.terminal) ∙ ap (λ (x : World). x.terminal.plan) e ∙ masked_plan kept q v.terminal

pub same-active : (kept : Bool) (q : ℕ) (w v : World) → mask kept q w ≡ mask kept q v → is_active w.terminal.plan q ≡ true → is_active v.terminal.plan q ≡ true
same-active kept q w v e a = ap (λ (plan : Plan). is_active plan q) (sym (same-plan kept q w v e)) ∙ a

pub same_results : (kept : Bool) (q : ℕ) (w v : World) (m : Move) → Good w → Good v → is_active w.terminal.plan q ≡ true → mask kept q w ≡ mask kept q v
    → own q m ≡ false → mask_result kept q (step w m) ≡ mask_result kept q (step v m)
same_results kept q w v m g h a e o =
    sym (others_commute kept q w m g a o) ∙ ap (λ (x : World). step x m) e ∙ others_commute kept q v m h (same-active kept q w v e a) o

module _ (q : ℕ) (w v : World) (g : Good w) (h : Good v) (a : is_active w.terminal.plan q ≡ true) (e : mask false q w ≡ mask false q v) where
  seen : (m : Move) → own q m ≡ false → SeenAlike q m (step w m) (step v m)
  unfolding mask_result
  seen m o =
      let same = same_results false q w v m g h a e o in
      record {
        worlds = ap (λ (r : Result). r.world) same;
        number = λ _. ap (λ (r : Result). r.number) same;
        count = λ _. ap (λ (r : Result). r.count) same;
        buffer = λ _. ap (λ (r : Result). r.buffer) same;
      }

  unseen : (m n : Move) → own q m ≡ true → own q n ≡ true → SeenAlike q m (step w m) (step v n)
  unseen m n o k =
      record {
        worlds = own_invisible q w m g a o ∙ e ∙ sym (own_invisible q v n h (same-active false q w v e a) k);
        number = λ z. absurd (false≢true (sym z ∙ o));
        count = λ z. absurd (false≢true (sym z ∙ o));
        buffer = λ z. absurd (false≢true (sym z ∙ o));
      }

  pub first_half : {m n : Move} → Alike q m n → SeenAlike q m (step w m) (step v n)
  unfolding own
  first_half (same m) = by_test (own q m) (λ o. unseen m m o o) (seen m)
  first_half (logins name password other) = unseen (Login q name password) (Login q name other) (eq-eqb q q refl) (eq-eqb q q refl)
  first_half (changes password other taken) = unseen (SetPassword q password taken) (SetPassword q other taken) (eq-eqb q q refl) (eq-eqb q q refl)

-- every step keeps what is good of a world
module _ (good-step : (w : World) (m : Move) → Good w → Good (step w m).world) (q : ℕ) where
  pub runs-alike : (w v : World) {ms ns : List Move} → Good w → Good v → is_active w.terminal.plan q ≡ true → mask false q w ≡ mask false q v
      → AllAlike q ms ns → AllSeenAlike q ms (run w ms) (run v ns)
  unfolding run
  runs-alike w v g h a e none = none
  runs-alike w v g h a e (more {m} {n} {ms} {ns} l rest) =
      let s = first_half q w v g h a e l in
      more s (runs-alike (step w m).world (step v n).world (good-step w m g) (good-step v n h) (active-after w m q a) s.worlds rest)

  pub worlds-alike : (w v : World) {ms ns : List Move} → Good w → Good v → is_active w.terminal.plan q ≡ true → mask false q w ≡ mask false q v
      → AllAlike q ms ns → mask false q (after w ms) ≡ mask false q (after v ns)
  unfolding after
  worlds-alike w v g h a e none = e
  worlds-alike w v g h a e (more {m} {n} {ms} {ns} l rest) =
      let s = first_half q w v g h a e l in
      worlds-alike (step w m).world (step v n).world (good-step w m g) (good-step v n h) (active-after w m q a) s.worlds rest
