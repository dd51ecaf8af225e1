-- Load, store, flush and configuration leave a good world good: a flush writes a mapped file, which is no password file.
use Rattle.std.specs.Prelude.{Bool, true, false, not, List, ◌≡◌, refl, ℕ, ◌<◌, eqb, ltb}
use Rattle.std.proofs.Common.{arith, ltb-true}
use Rattle.std.proofs.lemmas.Bool.{eqb-false, not-false}
use Rattle.octets.specs.Lists.{over, on_part}
use Rattle.octets.specs.WriteLaws.{length_over}
use Rattle.image.specs.SpotLaws.{on_file-at}
use Rattle.checks.specs.Checks.{after}
use Rattle.checks.specs.Settle.{by_settle}
use Rattle.checks.specs.Laws.{not-due, second-not-due}
use Rattle.checks.specs.Told.{Told}
use Rattle.state.specs.declared.Plan.{Plan}
use Rattle.state.specs.Parts.{segment_at}
use Rattle.memory.specs.Rights.{row_of, declared, right_of, reach}
use Rattle.memory.specs.Memory.{flush_checks, flush}
use Rattle.memory.specs.MemoryLaws.{length-store}
use Rattle.terminal.specs.Terminal.{unmoved}
use Rattle.terminal.specs.MemoryCalls as memory
use Rattle.steps.specs.World.{World, Load, Store, Flush, Configuration, fills, answers, step, with_store}
use Rattle.good.specs.Good.{plan_of, Good}
use Rattle.good.specs.Changes.{good-arena}
use Rattle.good.specs.StoreChanges.{good-file}

-- ---- what a flush that is not refused reaches

-- a right to a row says that it is declared; a row below 16 is then a dseg
right-declared : (plan : Plan) (permissions : List (List ℕ)) (row p : ℕ) → (right_of plan permissions row p ≡ 0 → ⊥) → declared plan row ≡ true
unfolding right_of
right-declared plan permissions row p h = go (declared plan row) refl
  where
    go : (t : Bool) → declared plan row ≡ t → declared plan row ≡ true
    go true e = e
    go false e = absurd (h (rw e))

dseg-declared : (plan : Plan) (row : ℕ) → ltb row 16 ≡ true → declared plan row ≡ true → row < plan.dsegs
unfolding declared
dseg-declared plan row low h = ltb-true row plan.dsegs (rw low at h)

pub reached : (plan : Plan) (permissions : List (List ℕ)) (n p selector : ℕ) → after n (flush_checks (reach plan permissions p selector)) ≡ 0 → row_of selector < plan.dsegs
unfolding flush_checks reach
reached plan permissions n p selector e =
    let row = row_of selector in
    let right = not-due n 211 (eqb (right_of plan permissions row p) 0) _ e (λ z. absurd (omega arith)) in
    let mapped = second-not-due n 201 _ (not (ltb row 16)) _ e (λ z. absurd (omega arith)) in
    dseg-declared plan row (not-false (ltb row 16) mapped)
    (right-declared plan permissions row p (eqb-false (right_of plan permissions row p) 0 right))

module _ (w : World) (g : Good w) where
  pub good-load : (p selector offset : ℕ) (buffer : List ℕ) → Good (step w (Load p selector offset buffer)).world
  unfolding step fills memory.load unmoved
  good-load p selector offset buffer = g

  pub good-configuration : (p : ℕ) (buffer : List ℕ) → Good (step w (Configuration p buffer)).world
  unfolding step fills memory.configuration unmoved
  good-configuration p buffer = g

  pub good-store : (p selector offset : ℕ) (bytes : List ℕ) → Good (step w (Store p selector offset bytes)).world
  unfolding step answers memory.store unmoved
  good-store p selector offset bytes = good-arena w g _ (length-store _ (reach (plan_of w) w.permissions p selector) offset bytes w.arena)

  -- a write into the file of a declared dseg
  good-dseg : (row : ℕ) (new : List ℕ) → row < (plan_of w).dsegs
      → Good (with_store (on_part (segment_at (plan_of w) row).file.place (segment_at (plan_of w) row).file.length (over new) w.store) w)
  good-dseg row new h =
      let m = g.mapped row h in
      let at = (segment_at (plan_of w) row).file in
      rw (← on_file-at w.store (over new) m.path at.place at.length m.found)
      (good-file w g m.path (over new) (length_over new) m.free)

  pub good-flush : (p selector taken : ℕ) → Good (step w (Flush p selector taken)).world
  unfolding step answers memory.flush unmoved flush reach
  good-flush p selector taken =
      by_settle (λ (o : Told). Good (with_store o.lent w)) _
      (λ e. good-dseg (row_of selector) _ (reached (plan_of w) w.permissions _ p selector e))
      (λ e. g)
