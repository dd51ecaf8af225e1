-- A row of known length is the row of its elements.
use Rattle.std.proofs.Common.{◌≡◌, ℕ, zero, suc, ◌+◌, ◌-◌, ◌<◌, ◌≤◌, List, [], ◌∷◌, length, get_or, take, drop, ap₂, arith, length-drop, drop_of_length-le, take_all, drop-cons}

-- the n elements from place i on
abbrev pub elements : ℕ → ℕ → List ℕ → List ℕ
elements zero i l = []
elements (suc n) i l = get_or l i 0 ∷ elements n (suc i) l

pub drop-elements : (n i : ℕ) (l : List ℕ) → length l ≡ n + i → drop i l ≡ elements n i l
drop-elements zero i l e =
    let h : length l ≤ i = omega arith in
    drop_of_length-le l h
drop-elements (suc n) i l e =
    let h : i < length l = omega arith in
    rw (drop-cons l i 0 h, drop-elements n (suc i) l (omega arith))

-- the part of a slice from place k to its end
pub rest_of : (k : ℕ) (l : List ℕ) → take (length l - k) (drop k l) ≡ drop k l
rest_of k l = take_all (length l - k) (drop k l) (rw (length-drop k l) (omega arith))

-- rows are equal element by element. A chain of these is checked far sooner than a chain of rewritings
pub cons : {x y : ℕ} {l k : List ℕ} → x ≡ y → l ≡ k → x ∷ l ≡ y ∷ k
cons p q = ap₂ (λ (x : ℕ) (l : List ℕ). x ∷ l) p q
