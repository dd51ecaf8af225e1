-- The place of the first byte of a kind, known by what stands there and before it.
use Rattle.std.proofs.Common.{List, [], ◌∷◌, ◌≡◌, ◌≤◌, ◌<◌, refl, ap, ℕ, zero, suc, length, slice_index, arith, eq-eqb, ne_eqb, not-suc-le-zero, le_of_suc-le-suc}
use Rattle.octets.specs.Search.{index_of, index_after}

pub first_there : (b n : ℕ) (l : List ℕ) → n ≤ length l → ((k : ℕ) → k < n → slice_index l k ≡ b → ⊥) → (n < length l → slice_index l n ≡ b)
    → n ≡ index_of b l
unfolding index_of index_after
first_there b zero [] h before there = refl
first_there b zero (x ∷ l) h before there = rw (eq-eqb x b (there (omega arith)))
first_there b (suc n) [] h before there = absurd (not-suc-le-zero h)
first_there b (suc n) (x ∷ l) h before there =
    rw (ne_eqb x b (before 0 (omega arith)))
    (ap suc (first_there b n l (le_of_suc-le-suc h) (λ k j. before (suc k) (omega arith)) (λ j. there (omega arith))))
