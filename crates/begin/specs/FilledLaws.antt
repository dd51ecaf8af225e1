-- An area that is filled in order, one thing behind the other; and screens that are cleared in order.
use Rattle.std.specs.Prelude.{Bool, true, false, cond, List, ◌++◌, ◌≡◌, refl, ℕ, zero, suc, ◌+◌, ◌*◌, min, length}
use Rattle.std.proofs.Common.{ap, ◌∙◌, zero-add, add-one, arith, length-append}
use Rattle.octets.specs.Lists.{over, write_at}
use Rattle.octets.specs.WriteLaws.{length_over, length-write_at, write_at-zero, write_at-min, write_at-append}
use Rattle.devices.specs.Choice.{by_cond}
use Rattle.state.specs.declared.Plan.{Plan}
use Rattle.state.specs.Parts.{is_active}
use Rattle.begin.specs.Each.{joined}
use Rattle.begin.specs.Filled.{blank_screen, cleared}

behind : (a b area : List ℕ) → write_at (length a) b (over a area) ≡ over (a ++ b) area
behind a b area =
    let w : write_at (length a) b (write_at 0 a area) ≡ write_at 0 (a ++ b) area = rw zero-add at (write_at-append 0 a b area) in
    rw (← write_at-zero a area, ← write_at-zero (a ++ b) area) w

joined-more : (f : ℕ → List ℕ) (i : ℕ) → joined f (i + 1) ≡ joined f i ++ f i
unfolding joined
joined-more f i = rw add-one

-- the first i are laid, and `at` is the place behind them, or the area's end
module _ (f : ℕ → List ℕ) (i at : ℕ) (area now : List ℕ) (so_far : now ≡ over (joined f i) area) (place : at ≡ min (length (joined f i)) (length area)) where
  same-room : length now ≡ length area
  same-room = ap length so_far ∙ length_over (joined f i) area

  pub laid_more : (next : List ℕ) → next ≡ write_at at (f i) now → next ≡ over (joined f (i + 1)) area
  laid_more next e =
      let p : at ≡ min (length (joined f i)) (length (over (joined f i) area)) = rw length_over place in
      rw (e, so_far, p, write_at-min, joined-more) (behind (joined f i) (f i) area)

  pub place_more : (next : ℕ) → next ≡ min (at + length (f i)) (length now) → next ≡ min (length (joined f (i + 1))) (length area)
  place_more next e =
      let room : length now ≡ length area = same-room in
      let more : length (joined f (i + 1)) ≡ length (joined f i) + length (f i) = rw (joined-more, length-append) in
      omega arith

-- ---- screens

pub length-cleared : (plan : Plan) (n : ℕ) (screens : List ℕ) → length (cleared plan n screens) ≡ length screens
unfolding cleared
length-cleared plan zero screens = refl
length-cleared plan (suc n) screens =
    by_cond (λ (l : List ℕ). length l ≡ length screens) (is_active plan n)
    (λ _. length-write_at (2000 * n) blank_screen (cleared plan n screens) ∙ length-cleared plan n screens)
    (λ _. length-cleared plan n screens)

-- one screen, cleared or not
pub cleared_more : (plan : Plan) (p : ℕ) (screens now next : List ℕ) → now ≡ cleared plan p screens
    → next ≡ cond (is_active plan p) (write_at (2000 * p) blank_screen now) now → next ≡ cleared plan (p + 1) screens
unfolding cleared
cleared_more plan p screens now next e g = rw (add-one, g, e)

pub when_active : (t : Bool) (p : ℕ) (old new : List ℕ) → t ≡ true → new ≡ write_at (2000 * p) blank_screen old
    → new ≡ cond t (write_at (2000 * p) blank_screen old) old
when_active t p old new e g = rw e g

pub when_passive : (t : Bool) (p : ℕ) (old : List ℕ) → t ≡ false → old ≡ cond t (write_at (2000 * p) blank_screen old) old
when_passive t p old e = rw e
