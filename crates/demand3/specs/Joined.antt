-- One behind the other: of which one is changed.
use Rattle.std.specs.Prelude.{List, ◌++◌, ◌≡◌, refl, length, take, drop, ℕ, zero, suc, ◌+◌, ◌≤◌, ◌<◌}
use Rattle.std.proofs.Common.{append-nil, sym, ap, ◌∙◌, not-suc-le-zero, add-zero, zero-add, take_all, arith}
use Rattle.std.proofs.Math.Decide.{dec_le}
use Rattle.std.proofs.Math.Seq.{drop-length}
use Rattle.octets.specs.Lists.{over, on_part, KeepsLength}
use Rattle.octets.specs.PartLaws.{part_all}
use Rattle.octets.specs.OnPartLaws.{on_part_def, length-on_part}
use Rattle.octets.specs.WriteLaws.{over-split}
use Rattle.rows.specs.ChangeLaws.{on_part-left, on_part-right}
use Rattle.begin.specs.Each.{joined}
use Rattle.started.specs.Rows.{below}

pub joined_same : (f g : ℕ → List ℕ) (n : ℕ) → ((i : ℕ) → i < n → g i ≡ f i) → joined g n ≡ joined f n
unfolding joined
joined_same f g zero same = refl
joined_same f g (suc n) same = rw (joined_same f g n (λ i h. same i (omega arith)), same n (omega arith))

-- the whole of a list, and of what stands last
on_all : (h : List ℕ → List ℕ) (x : List ℕ) → on_part 0 (length x) h x ≡ h x
on_all h x = rw (on_part_def 0 (length x) h x, part_all x, zero-add, drop-length x) (append-nil (h x))

on-last : (h : List ℕ → List ℕ) (l x : List ℕ) → on_part (length l) (length x) h (l ++ x) ≡ l ++ h x
on-last h l x = rw add-zero at (on_part-right 0 (length x) h l x) ∙ ap (λ (y : List ℕ). l ++ y) (on_all h x)

-- the rows f and g are the same but for row q, which h changes
module _ (f g : ℕ → List ℕ) (h : List ℕ → List ℕ) (q : ℕ) (own : g q ≡ h (f q)) where
  pub joined-changed : (n : ℕ) → q < n → ((i : ℕ) → i < n → (q ≡ i → ⊥) → g i ≡ f i) → joined g n ≡ on_part (length (joined f q)) (length (f q)) h (joined f n)
  unfolding joined
  joined-changed zero low same = absurd (not-suc-le-zero low)
  joined-changed (suc n) low same = go (λ l. joined-changed n l (λ i k. same i (omega arith))) (dec_le n q)
    where
      go : (q < n → joined g n ≡ on_part (length (joined f q)) (length (f q)) h (joined f n)) → Dec (n ≤ q)
          → joined g n ++ g n ≡ on_part (length (joined f q)) (length (f q)) h (joined f n ++ f n)
      go rest (yes k) =
          let e : n ≡ q = omega arith in
          let front : joined g n ≡ joined f n = joined_same f g n (λ i l. same i (omega arith) (λ z. omega arith)) in
          rw (front, e, own) (sym (on-last h (joined f q) (f q)))
      go rest (no k) =
          let less : q < n = omega arith in
          rw (rest less, same n (omega arith) (λ z. omega arith))
          (sym (on_part-left (length (joined f q)) (length (f q)) h (joined f n) (f n) (below f n q less)))

-- a change of what is laid over an area that has room for it
module _ (h : List ℕ → List ℕ) (keeps : KeepsLength h) where
  pub over-changed : (at n : ℕ) (new old : List ℕ) → at + n ≤ length new → length new ≤ length old → over (on_part at n h new) old ≡ on_part at n h (over new old)
  over-changed at n new old inside fits =
      let long : length (on_part at n h new) ≡ length new = length-on_part h keeps at n new in
      let all : take (length old) (on_part at n h new) ≡ on_part at n h new = take_all (length old) (on_part at n h new) (omega arith) in
      rw (over-split (on_part at n h new) old, over-split new old, all, long, take_all (length old) new fits)
      (sym (on_part-left at n h new (drop (length new) old) inside))
