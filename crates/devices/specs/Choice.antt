-- A fact of what a test chooses.
use Rattle.std.specs.Prelude.{Bool, true, false, cond, ◌≡◌, refl}

-- what holds of either choice, where the test allows it, holds of the choice
pub by_cond : {A : Type 0} (P : A → Type 0) (t : Bool) {x y : A} → (t ≡ true → P x) → (t ≡ false → P y) → P (cond t x y)
by_cond P true f g = f refl
by_cond P false f g = g refl
