-- The attention key's search ends at an active partition: eight looks go round, and the focus itself is active.
use Rattle.std.specs.Prelude.{true, false, ◌⊎◌, ◌≡◌, ltb, ℕ, zero, suc, ◌+◌, ◌-◌, ◌≤◌, ◌<◌}
use Rattle.std.proofs.Common.{inl, inr, sym, ◌∙◌, not-suc-le-zero, arith, ltb-true, ltb-false}
use Rattle.std.proofs.Math.Bool.{and-eq-true_iff}
use Rattle.std.proofs.lemmas.Bool.{false≢true}
use Rattle.devices.specs.Choice.{by_cond}
use Rattle.state.specs.declared.Plan.{Plan}
use Rattle.state.specs.Parts.{is_active, seat_at}
use Rattle.guard.specs.Events.{behind, seek}

-- an active partition is one of the count
pub active-below : (plan : Plan) (p : ℕ) → is_active plan p ≡ true → p < plan.count
unfolding is_active
active-below plan p a = ltb-true p plan.count ((and-eq-true_iff (ltb p plan.count) (seat_at plan p).active).0 a).0

module _ (plan : Plan) (f : ℕ) (active : is_active plan f ≡ true) where
  -- f comes d places behind p, round
  abbrev Ahead : ℕ → ℕ → Type 0
  Ahead p d = (p + d ≡ f) ⊎ (p + d ≡ plan.count + f)

  some_way : (p d : ℕ) → is_active plan p ≡ false → p < plan.count → Ahead p d → 0 < d
  some_way p zero passive low (inl e) = let same : p ≡ f = omega arith in absurd (false≢true (sym passive ∙ rw same active))
  some_way p zero passive low (inr e) = absurd (omega arith)
  some_way p (suc d) passive low at = omega arith

  behind-low : (p : ℕ) → p < plan.count → behind plan p < plan.count
  unfolding behind
  behind-low p low = by_cond (λ (q : ℕ). q < plan.count) (ltb (p + 1) plan.count) (λ e. ltb-true (p + 1) plan.count e) (λ e. omega arith)

  -- from the one behind, f is nearer by one
  nearer : (p d : ℕ) → p < plan.count → 0 < d → Ahead p d → Ahead (behind plan p) (d - 1)
  unfolding behind
  nearer p d low some at = by_cond (λ (q : ℕ). Ahead q (d - 1)) (ltb (p + 1) plan.count) (λ e. next at) (λ e. round (ltb-false (p + 1) plan.count e) at)
    where
      next : Ahead p d → Ahead (p + 1) (d - 1)
      next (inl e) = inl (omega arith)
      next (inr e) = inr (omega arith)

      round : plan.count ≤ p + 1 → Ahead p d → Ahead 0 (d - 1)
      round last (inl e) = let below = active-below plan f active in absurd (omega arith)
      round last (inr e) = inl (omega arith)

  seek_finds : (n d p : ℕ) → d < n → p < plan.count → Ahead p d → is_active plan (seek n plan p) ≡ true
  unfolding seek
  seek_finds zero d p h low at = absurd (not-suc-le-zero h)
  seek_finds (suc n) d p h low at =
      by_cond (λ (q : ℕ). is_active plan q ≡ true) (is_active plan p) (λ e. e)
      (λ e.
      let some = some_way p d e low at in
      seek_finds n (d - 1) (behind plan p) (omega arith) (behind-low p low) (nearer p d low some at))

  -- f itself is found last, after all the others
  pub attention-finds : plan.count ≤ 8 → is_active plan (seek 8 plan (behind plan f)) ≡ true
  attention-finds few =
      let below = active-below plan f active in
      let at = nearer f plan.count below (omega arith) (inr (omega arith)) in
      seek_finds 8 (plan.count - 1) (behind plan f) (omega arith) (behind-low f below) at
