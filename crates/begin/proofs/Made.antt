-- A row that is made by a function of the number.
use Rattle.std.proofs.Common.{Bool, true, false, MatchBool, length, List, [], ◌∷◌, sym, ◌≡◌, ℕ, zero, suc, ◌+◌, ◌≤◌, ◌<◌, get_or, subst, ◌∙◌, arith, not-suc-le-zero}
use Rattle.std.proofs.Math.Decide.{dec_le}
use Rattle.std.specs.List.{HoldsAt, AllWithin, list_any}
use Rattle.std.proofs.lemmas.List.Elements.{All-from_all_within}
use Rattle.std.proofs.lemmas.List.Folds.{list_any_at, list_any_none}
use Rattle.std.specs.Array.{IsFromFnResult, IsFromFnResultFrom}
use denote.Param.Members.{Mut, Called}
use Rattle.begin.specs.Each.{firsts}
use Rattle.begin.specs.EachLaws.{firsts_of, firsts-step, total-more, sum_inside}

module _ {F A : Type 0} (g : Mut F (ℕ × Unit {0}) A) (s : F) (f : ℕ → A) (row : List A)
    (says : (i : ℕ) (r : A) (q : F) → Called g s (i, tt) r q → (r ≡ f i) × (q ≡ s)) where
  each : (n i : ℕ) → IsFromFnResultFrom g s row i n → (k : ℕ) (d : A) → i ≤ k → k < i + n → get_or row k d ≡ f k
  each zero i h k d low high = let never : 1 ≤ 0 = omega arith in absurd (not-suc-le-zero never)
  each (suc n) i h k d low high = go (each n (i + 1)) (dec_le k i)
    where
      told : (h.1 ≡ f i) × (h.0 ≡ s)
      told = says i h.1 h.0 h.3

      go : (IsFromFnResultFrom g s row (i + 1) n → (k : ℕ) (d : A) → i + 1 ≤ k → k < i + 1 + n → get_or row k d ≡ f k) → Dec (k ≤ i) → get_or row k d ≡ f k
      go rest (yes e) = let same : k ≡ i = omega arith in rw same (h.2.1 d ∙ told.0)
      go rest (no e) = rest (subst (λ p. IsFromFnResultFrom g p row (i + 1) n) told.1 h.4) k d (omega arith) (omega arith)

  pub made : (n : ℕ) → IsFromFnResult g s row n → row ≡ firsts f n
  made n h = firsts_of f row n h.long (λ i d k. each n 0 h.each i d (omega arith) (omega arith))

-- what `any` found or did not find, as a test of the row
pub any_is : {A : Type 0} (p : A → Bool) (row : List A) (found : Bool)
    → MatchBool found ((k : ℕ) × (k < length row) × HoldsAt (λ x. p x ≡ true) row k) (AllWithin (λ x. p x ≡ false) row 0 (length row))
    → found ≡ list_any p row
any_is p [] true h = let never : 1 ≤ 0 = omega (arith, h.1) in absurd (not-suc-le-zero never)
any_is p (x ∷ row) true h = sym (list_any_at p (x ∷ row) h.0 x h.1 (h.2 x))
any_is p row false h = sym (list_any_none p row (All-from_all_within (λ x. p x ≡ false) row h))

-- a row that is filled in order, each thing behind the other
pub ruleset in_order = (firsts-step, total-more, sum_inside)
