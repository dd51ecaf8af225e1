-- The test that two rows of bytes are the same, and what its answer says.
use Rattle.std.specs.Prelude.{Bool, true, false, ◌&&◌, List, [], ◌∷◌, ◌≡◌, refl, ℕ, eqb}
use Rattle.std.proofs.Common.{sym, eq-eqb, eqb-true}
use lib.Pointwise.{pointwise}
use Rattle.std.proofs.Math.Bool.{and-eq-true_iff}
use Rattle.std.proofs.lemmas.Bool.{false≢true}

-- as long as each other, and the same at each place
unfoldable pub same_bytes : List ℕ → List ℕ → Bool
same_bytes [] [] = true
same_bytes [] (y ∷ m) = false
same_bytes (x ∷ l) [] = false
same_bytes (x ∷ l) (y ∷ m) = eqb x y && same_bytes l m

pub same_refl : (l : List ℕ) → same_bytes l l ≡ true
unfolding same_bytes
same_refl [] = refl
same_refl (x ∷ l) = rw (eq-eqb x x refl, same_refl l)

pub eq-same : (l m : List ℕ) → l ≡ m → same_bytes l m ≡ true
eq-same l m e = rw e (same_refl m)

pub same-eq : (l m : List ℕ) → same_bytes l m ≡ true → l ≡ m
unfolding same_bytes
same-eq [] [] e = refl
same-eq [] (y ∷ m) e = absurd (false≢true e)
same-eq (x ∷ l) [] e = absurd (false≢true e)
same-eq (x ∷ l) (y ∷ m) e =
    let both = (and-eq-true_iff (eqb x y) (same_bytes l m)).0 e in
    rw (eqb-true x y both.0, same-eq l m both.1)

pub ne_same : (l m : List ℕ) → (l ≡ m → ⊥) → same_bytes l m ≡ false
ne_same l m h = go (same_bytes l m) refl
  where
    go : (b : Bool) → same_bytes l m ≡ b → same_bytes l m ≡ false
    go true e = absurd (h (same-eq l m e))
    go false e = e

-- an answer that is true exactly where the rows are the same is this test's
pub same-decided : (r : Bool) (l m : List ℕ) → (r ≡ true → l ≡ m) → (l ≡ m → r ≡ true) → r ≡ same_bytes l m
same-decided true l m f g = sym (eq-same l m (f refl))
same-decided false l m f g = sym (ne_same l m (λ e. false≢true (g e)))

-- the test that goes over both rows place by place is this test
pub same_bytes_pointwise : (l m : List ℕ) → pointwise eqb l m ≡ same_bytes l m
unfolding same_bytes
same_bytes_pointwise [] [] = refl
same_bytes_pointwise [] (y ∷ m) = refl
same_bytes_pointwise (x ∷ l) [] = refl
same_bytes_pointwise (x ∷ l) (y ∷ m) = rw (same_bytes_pointwise l m)
