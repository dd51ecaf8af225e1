-- Refused, or done.
use Rattle.std.specs.Prelude.{Bool, true, false, cond, ◌≡◌, refl, ℕ, eqb}
use Rattle.std.proofs.Common.{eqb-true, eq-eqb, ne_eqb}
use Rattle.std.proofs.lemmas.Bool.{eqb-false}

-- what is done where nothing was refused, and what is left where something was
unfoldable pub settle : {A : Type 0} → ℕ → A → A → A
settle n done refused = cond (eqb n 0) done refused

-- what holds of both holds of the outcome
pub by_settle : {A : Type 0} (P : A → Type 0) (n : ℕ) {x y : A} → (n ≡ 0 → P x) → ((n ≡ 0 → ⊥) → P y) → P (settle n x y)
unfolding settle
by_settle P n {x} {y} f g = go (eqb n 0) refl
  where
    go : (t : Bool) → eqb n 0 ≡ t → P (cond t x y)
    go true e = f (eqb-true n 0 e)
    go false e = g (eqb-false n 0 e)

pub settle_done : {A : Type 0} (n : ℕ) (done refused : A) → n ≡ 0 → settle n done refused ≡ done
unfolding settle
settle_done n done refused e = rw (eq-eqb n 0 e)

pub settle-refused : {A : Type 0} (n : ℕ) (done refused : A) → (n ≡ 0 → ⊥) → settle n done refused ≡ refused
unfolding settle
settle-refused n done refused h = rw (ne_eqb n 0 h)
