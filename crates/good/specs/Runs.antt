-- What holds after any run that begins in a good world.
use Rattle.std.specs.Prelude.{true, List, [], ◌∷◌, ◌≡◌, refl, ℕ, length}
use Rattle.std.proofs.Common.{◌∙◌}
use Rattle.image.specs.Image.{spot}
use Rattle.state.specs.Parts.{is_active}
use Rattle.terminal.specs.Terminal.{table_of, file_of}
use Rattle.steps.specs.World.{World, Move, Result, step, run, after}
use Rattle.good.specs.Good.{plan_of, Good}
use Rattle.good.specs.Steps.{good-step}
use Rattle.good.specs.NeverBad.{never_216}
use Rattle.good.specs.Stays.{SameSpots, plan-step, spots-refl, spots-trans, spots-step}

pub good-run : (w : World) (ms : List Move) → Good w → Good (after w ms)
unfolding after
good-run w [] g = g
good-run w (m ∷ ms) g = good-run (step w m).world ms (good-step w m g)

-- no call of a run answers BAD_STATE
abbrev pub NeverBad : List Result → Type 0
NeverBad [] = Unit {0}
NeverBad (r ∷ rs) = (r.number ≡ 216 → ⊥) × NeverBad rs

pub never_216_run : (w : World) (ms : List Move) → Good w → NeverBad (run w ms)
unfolding run
never_216_run w [] g = tt
never_216_run w (m ∷ ms) g = (never_216 w m g, never_216_run (step w m).world ms (good-step w m g))

-- what start fixed stays
pub plan_stays : (w : World) (ms : List Move) → plan_of (after w ms) ≡ plan_of w
unfolding after
plan_stays w [] = refl
plan_stays w (m ∷ ms) = plan_stays (step w m).world ms ∙ plan-step w m

-- "After every call the password table in memory and the file on the store say the same" (document 00, demand 2)
pub together : (w : World) (ms : List Move) → Good w → (p : ℕ) → is_active (plan_of w) p ≡ true
    → file_of (after w ms).terminal p (after w ms).store ≡ table_of (after w ms).terminal p (after w ms).tables
together w ms g p a = ((good-run w ms g).seated p (rw (plan_stays w ms) a)).same

-- every file stands where it stood, and the image is as long as it was
same-spots : (w : World) (ms : List Move) → Good w → SameSpots w.store (after w ms).store
unfolding after
same-spots w [] g = spots-refl w.store
same-spots w (m ∷ ms) g = spots-trans _ (step w m).world.store _ (spots-step w m g) (same-spots (step w m).world ms (good-step w m g))

pub spots_stay : (w : World) (ms : List Move) → Good w → (path : List ℕ) → spot path (after w ms).store ≡ spot path w.store
spots_stay w ms g path = (same-spots w ms g).spots path

pub image-long : (w : World) (ms : List Move) → Good w → length (after w ms).store ≡ length w.store
image-long w ms g = (same-spots w ms g).long
