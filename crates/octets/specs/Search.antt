-- The place of a byte in a row, and a part of a row between two places.
use Rattle.std.specs.Prelude.{Bool, true, false, List, [], ◌∷◌, ℕ, suc, eqb, take, drop}

unfoldable pub index_after : Bool → ℕ → ℕ
index_after true n = 0
index_after false n = suc n

-- the place of the first byte of this kind; the length where there is none
unfoldable pub index_of : ℕ → List ℕ → ℕ
unfolding index_after
index_of b [] = 0
index_of b (x ∷ l) = index_after (eqb x b) (index_of b l)

-- the bytes from place i on and before place j
unfoldable pub slice : ℕ → ℕ → List ℕ → List ℕ
slice i j l = drop i (take j l)
