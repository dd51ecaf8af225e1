-- Laws of a thing for each number below n.
use Rattle.std.specs.Prelude.{List, [], ◌∷◌, ◌++◌, ◌≡◌, length, take, set, refl, ℕ, zero, suc, ◌+◌, ◌≤◌, ◌<◌, get_or, sum}
use Rattle.std.proofs.Common.{sym, ◌∙◌, not-suc-le-zero, add-one, length-append, take_all, arith, take-suc-set, ext_get_or}
use Rattle.std.proofs.Math.Decide.{dec_le}
use Rattle.std.proofs.Math.ListN.{get_or-append}
use Rattle.std.proofs.lemmas.List.{get_or_at}
use Rattle.std.proofs.lemmas.List.Sums.{sum_by-append}
use Rattle.begin.specs.Each.{firsts, total}

module _ {A : Type 0} where
  pub length-firsts : (f : ℕ → A) (n : ℕ) → length (firsts f n) ≡ n
  unfolding firsts
  length-firsts f zero = refl
  length-firsts f (suc n) = rw (length-append, length-firsts f n, add-one)

  pub get_or-firsts : (f : ℕ → A) (n i : ℕ) (d : A) → i < n → get_or (firsts f n) i d ≡ f i
  unfolding firsts
  get_or-firsts f zero i d h = absurd (not-suc-le-zero h)
  get_or-firsts f (suc n) i d h = go (get_or-firsts f n i d) (dec_le n i)
    where
      go : (i < n → get_or (firsts f n) i d ≡ f i) → Dec (n ≤ i) → get_or (firsts f n ++ (f n ∷ [])) i d ≡ f i
      go rest (yes k) = let e : i ≡ n = omega arith in rw e (get_or_at (firsts f n) (f n) [] d n (length-firsts f n))
      go rest (no k) = let less : i < n = omega arith in get_or-append (firsts f n) (f n ∷ []) d i (rw length-firsts less) ∙ rest less

  pub firsts_of : (f : ℕ → A) (row : List A) (n : ℕ) → length row ≡ n → ((i : ℕ) (d : A) → i < n → get_or row i d ≡ f i) → row ≡ firsts f n
  firsts_of f row n h each =
      ext_get_or (f 0) row (firsts f n) (h ∙ sym (length-firsts f n))
      (λ i k. let low : i < n = omega (arith, h) in each i (f 0) low ∙ sym (get_or-firsts f n i (f 0) low))

  -- a row that is filled in order
  pub firsts-step : (f : ℕ → A) (row : List A) (i : ℕ) (x : A) → i < length row → take i row ≡ firsts f i → x ≡ f i
      → take (i + 1) (set row i x) ≡ firsts f (i + 1)
  unfolding firsts
  firsts-step f row i x h e g = rw (add-one, take-suc-set row i x h, e, g)

  pub firsts_end : (f : ℕ → A) (row : List A) (i n : ℕ) → length row ≡ n → i ≡ n → take i row ≡ firsts f i → row ≡ firsts f n
  firsts_end f row i n h k e = sym (take_all i row (omega arith)) ∙ e ∙ rw k

-- ---- sums

pub sum-firsts : (f : ℕ → ℕ) (n : ℕ) → sum (firsts f n) ≡ total f n
unfolding firsts total
sum-firsts f zero = refl
sum-firsts f (suc n) = rw (sum_by-append (λ x. x) (firsts f n) (f n ∷ [])) (omega (arith, sum-firsts f n))

pub total_mono : (f : ℕ → ℕ) (i n : ℕ) → i ≤ n → total f i ≤ total f n
unfolding total
total_mono f i zero h = let e : i ≡ 0 = omega arith in rw e (omega arith)
total_mono f i (suc n) h = go (total_mono f i n) (dec_le i n)
  where
    go : (i ≤ n → total f i ≤ total f n) → Dec (i ≤ n) → total f i ≤ total f (suc n)
    go rest (yes k) = let r = rest k in omega arith
    go rest (no k) = let e : i ≡ suc n = omega arith in rw e (omega arith)

pub total-more : (f : ℕ → ℕ) (i : ℕ) → total f (i + 1) ≡ total f i + f i
unfolding total
total-more f i = rw add-one

-- a sum grows on its way
pub sum_inside : (f : ℕ → ℕ) (i n : ℕ) → i < n → total f i + f i ≤ total f n
sum_inside f i n k =
    let mono : total f (i + 1) ≤ total f n = total_mono f (i + 1) n (omega arith) in
    let more : total f (i + 1) ≡ total f i + f i = total-more f i in
    omega arith
