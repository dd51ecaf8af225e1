-- Looking for the lowest active partition, one by one.
use Rattle.std.specs.Prelude.{true, false, cond, ◌≡◌, refl, ℕ, zero, suc, ◌+◌, ◌≤◌, ◌<◌, Option, Some, None, MatchOption, unwrap_or}
use Rattle.std.proofs.Common.{sym, not-suc-le-zero, arith}
use Rattle.std.proofs.Math.Decide.{dec_le}
use Rattle.setup.specs.declared.Setup.{Setup}
use Rattle.setup.specs.Setup.{is_active}
use Rattle.begin.specs.Planned.{lowest}

module _ (s : Setup) where
  -- it is partition i, n before it looked at and none of them active
  lowest_at : (n i p : ℕ) → p + n ≡ 8 → p ≤ i → i < 8 → is_active s i ≡ true → ((k : ℕ) → p ≤ k → k < i → is_active s k ≡ false) → lowest n s p ≡ i
  unfolding lowest
  lowest_at zero i p e low high a before = let never : 1 ≤ 0 = omega arith in absurd (not-suc-le-zero never)
  lowest_at (suc n) i p e low high a before = go (lowest_at n i (p + 1)) (dec_le i p)
    where
      go : (p + 1 + n ≡ 8 → p + 1 ≤ i → i < 8 → is_active s i ≡ true → ((k : ℕ) → p + 1 ≤ k → k < i → is_active s k ≡ false) → lowest n s (p + 1) ≡ i)
          → Dec (i ≤ p) → cond (is_active s p) p (lowest n s (p + 1)) ≡ i
      go rest (yes h) = let same : p ≡ i = omega arith in rw (same, a)
      go rest (no h) = rw (before p (omega arith) (omega arith)) (rest (omega arith) (omega arith) high a (λ k l m. before k (omega arith) m))

  lowest_none : (n p : ℕ) → p + n ≡ 8 → ((k : ℕ) → k < 8 → is_active s k ≡ false) → lowest n s p ≡ 0
  unfolding lowest
  lowest_none zero p e none = refl
  lowest_none (suc n) p e none = rw (none p (omega arith)) (lowest_none n (p + 1) (omega arith) none)

  pub lowest_found : (r : Option ℕ) → MatchOption r ((k : ℕ) → 0 ≤ k → k < 8 → is_active s k ≡ false)
      (λ i. (0 ≤ i) × (i < 8) × (is_active s i ≡ true) × ((k : ℕ) → 0 ≤ k → k < i → is_active s k ≡ false))
      → unwrap_or r 0 ≡ lowest 8 s 0
  lowest_found None none = sym (lowest_none 8 0 refl (λ k h. none k (omega arith) h))
  lowest_found (Some i) h = sym (lowest_at 8 i 0 refl h.0 h.1 h.2 h.3)
