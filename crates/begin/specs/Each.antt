-- A thing for each number below n, in order: as a row, as a sum, and one behind the other.
use Rattle.std.specs.Prelude.{List, [], ◌∷◌, ◌++◌, ℕ, zero, suc, ◌+◌}

module _ {A : Type 0} where
  unfoldable pub firsts : (ℕ → A) → ℕ → List A
  firsts f zero = []
  firsts f (suc n) = firsts f n ++ (f n ∷ [])

  unfoldable pub joined : (ℕ → List A) → ℕ → List A
  joined f zero = []
  joined f (suc n) = joined f n ++ f n

unfoldable pub total : (ℕ → ℕ) → ℕ → ℕ
total f zero = 0
total f (suc n) = total f n + f n
