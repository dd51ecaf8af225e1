-- Laws of a thing for each number below n: tested all, summed up, and one behind the other.
use Rattle.std.specs.Prelude.{Bool, true, ◌≡◌, length, List, [], ◌∷◌, ◌++◌, refl, ℕ, zero, suc, ◌+◌, ◌≤◌, ◌<◌}
use Rattle.std.proofs.Common.{◌∙◌, not-suc-le-zero, length-append, add-zero, arith}
use Rattle.std.proofs.Math.Bool.{and-eq-true_iff}
use Rattle.std.proofs.Math.Decide.{dec_le}
use Rattle.std.proofs.Math.Nat.{sub-zero}
use Rattle.octets.specs.Lists.{part, over}
use Rattle.octets.specs.PartLaws.{part_all, part-append-left, part-append-right}
use Rattle.octets.specs.WriteLaws.{write_at-zero, part-write_at_of}
use Rattle.guard.specs.Test.{all_of}
use Rattle.begin.specs.Each.{firsts, joined, total}
use Rattle.begin.specs.EachLaws.{total_mono, total-more}

module _ {A : Type 0} (f : A → Bool) where
  all_behind : (l : List A) (x : A) → all_of f l ≡ true → f x ≡ true → all_of f (l ++ (x ∷ [])) ≡ true
  unfolding all_of
  all_behind [] x e h = rw h
  all_behind (y ∷ l) x e h =
      let both = (and-eq-true_iff (f y) (all_of f l)).0 e in
      rw (both.0, all_behind l x both.1 h)

  pub all_firsts : (g : ℕ → A) (n : ℕ) → ((i : ℕ) → i < n → f (g i) ≡ true) → all_of f (firsts g n) ≡ true
  unfolding firsts all_of
  all_firsts g zero h = refl
  all_firsts g (suc n) h = all_behind (firsts g n) (g n) (all_firsts g n (λ i k. h i (omega arith))) (h n (omega arith))

-- sums of the same numbers
pub total-same : (f g : ℕ → ℕ) (n : ℕ) → ((i : ℕ) → i < n → f i ≡ g i) → total f n ≡ total g n
unfolding total
total-same f g zero h = refl
total-same f g (suc n) h = rw (total-same f g n (λ i k. h i (omega arith)), h n (omega arith))

-- one more stays inside the sum
pub total-below : (f : ℕ → ℕ) (n p : ℕ) → p < n → total f p + f p ≤ total f n
total-below f n p h = let m = total_mono f (p + 1) n (omega arith) in let e = total-more f p in omega arith

module _ (f : ℕ → List ℕ) where
  pub length-joined : (n : ℕ) → length (joined f n) ≡ total (λ i. length (f i)) n
  unfolding joined total
  length-joined zero = refl
  length-joined (suc n) = rw (length-append, length-joined n)

  pub below : (n p : ℕ) → p < n → length (joined f p) + length (f p) ≤ length (joined f n)
  below n p h = rw (length-joined p, length-joined n) (total-below (λ i. length (f i)) n p h)

  -- each one stands behind those before it
  pub part-joined : (n p : ℕ) → p < n → part (length (joined f p)) (length (f p)) (joined f n) ≡ f p
  unfolding joined
  part-joined zero p h = absurd (not-suc-le-zero h)
  part-joined (suc n) p h = go (part-joined n p) (dec_le n p)
    where
      go : (p < n → part (length (joined f p)) (length (f p)) (joined f n) ≡ f p) → Dec (n ≤ p)
          → part (length (joined f p)) (length (f p)) (joined f n ++ f n) ≡ f p
      go rest (yes k) =
          let e : p ≡ n = omega arith in
          let r = part-append-right 0 (length (f n)) (joined f n) (f n) in
          rw e (rw add-zero at r ∙ part_all (f n))
      go rest (no k) =
          let less : p < n = omega arith in
          part-append-left (length (joined f p)) (length (f p)) (joined f n) (f n) (below n p less) ∙ rest less

-- a part of what is laid over an area that has room for it
pub part-over : (at n : ℕ) (new old : List ℕ) → at + n ≤ length new → length new ≤ length old → part at n (over new old) ≡ part at n new
part-over at n new old h k = rw (← write_at-zero new old, part-write_at_of at n 0 new old (omega arith) (omega arith) (omega arith), sub-zero)
