-- Laws of `on_nth`: what a change of one element does to each element, and two changes of one list.
use Rattle.std.specs.Prelude.{List, [], ◌∷◌, ◌≢◌, ◌≡◌, length, get_or, set, refl, ℕ, zero, suc, ◌≤◌, ◌<◌}
use Rattle.std.proofs.Common.{ap, le_of_suc-le-suc, not-suc-le-zero}
use Rattle.std.proofs.lemmas.List.{set-get_or}
use Rattle.octets.specs.Lists.{on_nth, KeepsLength}

module _ {A : Type 0} where
  pub length-on_nth : (p : ℕ) (f : A → A) → KeepsLength (on_nth p f)
  unfolding on_nth
  length-on_nth p f [] = refl
  length-on_nth zero f (x ∷ l) = refl
  length-on_nth (suc p) f (x ∷ l) = ap suc (length-on_nth p f l)

  -- ---- each element

  pub nth_on_nth-same : (p : ℕ) (f : A → A) (l : List A) (d : A) → p < length l → get_or (on_nth p f l) p d ≡ f (get_or l p d)
  unfolding on_nth
  nth_on_nth-same p f [] d h = absurd (not-suc-le-zero h)
  nth_on_nth-same zero f (x ∷ l) d h = refl
  nth_on_nth-same (suc p) f (x ∷ l) d h = nth_on_nth-same p f l d (le_of_suc-le-suc h)

  pub nth_on_nth-other : (p q : ℕ) (f : A → A) (l : List A) (d : A) → p ≢ q → get_or (on_nth p f l) q d ≡ get_or l q d
  unfolding on_nth
  nth_on_nth-other p q f [] d h = refl
  nth_on_nth-other zero zero f (x ∷ l) d h = absurd (h refl)
  nth_on_nth-other zero (suc q) f (x ∷ l) d h = refl
  nth_on_nth-other (suc p) zero f (x ∷ l) d h = refl
  nth_on_nth-other (suc p) (suc q) f (x ∷ l) d h = nth_on_nth-other p q f l d (λ e. h (ap suc e))

  -- ---- one change

  pub on_nth_out : (p : ℕ) (f : A → A) (l : List A) → length l ≤ p → on_nth p f l ≡ l
  unfolding on_nth
  on_nth_out p f [] h = refl
  on_nth_out zero f (x ∷ l) h = absurd (not-suc-le-zero h)
  on_nth_out (suc p) f (x ∷ l) h = rw (on_nth_out p f l (le_of_suc-le-suc h))

  -- a store of what f makes of the element; behind the end neither does anything
  pub on_nth-set : (p : ℕ) (f : A → A) (l : List A) (d : A) → on_nth p f l ≡ set l p (f (get_or l p d))
  unfolding on_nth
  on_nth-set p f [] d = refl
  on_nth-set zero f (x ∷ l) d = refl
  on_nth-set (suc p) f (x ∷ l) d = rw (on_nth-set p f l d)

  -- only what the change does to that element counts
  pub on_nth-same : (p : ℕ) (f g : A → A) (l : List A) (d : A) → f (get_or l p d) ≡ g (get_or l p d) → on_nth p f l ≡ on_nth p g l
  on_nth-same p f g l d e = rw (on_nth-set p f l d, on_nth-set p g l d, e)

  pub on_nth-id : (p : ℕ) (f : A → A) (l : List A) (d : A) → f (get_or l p d) ≡ get_or l p d → on_nth p f l ≡ l
  on_nth-id p f l d e = rw (on_nth-set p f l d, e) (set-get_or l p d)

  -- ---- two changes

  pub on_nth-twice : (p : ℕ) (f g : A → A) (l : List A) → on_nth p f (on_nth p g l) ≡ on_nth p (λ x. f (g x)) l
  unfolding on_nth
  on_nth-twice p f g [] = refl
  on_nth-twice zero f g (x ∷ l) = refl
  on_nth-twice (suc p) f g (x ∷ l) = rw (on_nth-twice p f g l)

  pub on_nth_comm : (p q : ℕ) (f g : A → A) (l : List A) → p ≢ q → on_nth p f (on_nth q g l) ≡ on_nth q g (on_nth p f l)
  unfolding on_nth
  on_nth_comm p q f g [] h = refl
  on_nth_comm zero zero f g (x ∷ l) h = absurd (h refl)
  on_nth_comm zero (suc q) f g (x ∷ l) h = refl
  on_nth_comm (suc p) zero f g (x ∷ l) h = refl
  on_nth_comm (suc p) (suc q) f g (x ∷ l) h = rw (on_nth_comm p q f g l (λ e. h (ap suc e)))
