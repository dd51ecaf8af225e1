-- Laws of letters: a word of A and P, and the flags that they stand for.
use Rattle.std.specs.Prelude.{Bool, false, List, [], ◌∷◌, ◌≡◌, refl, ℕ, zero, suc, ◌<◌, eqb, length, get_or, replicate}
use Rattle.std.proofs.Common.{ap, le_of_suc-le-suc, arith}
use Rattle.std.specs.List.{list_all}
use Rattle.octets.specs.Lists.{over}
use Rattle.replay_text.specs.Letters.{is_letter, all_letters, flags}

pub letters_all : (w : List ℕ) → list_all is_letter w ≡ all_letters w
unfolding all_letters
letters_all [] = refl
letters_all (b ∷ w) = rw (letters_all w)

-- whether letter i is an A
unfoldable pub is_a : List ℕ → ℕ → Bool
is_a w i = eqb (get_or w i 0) 65

-- the flags of the first eight
unfoldable pub first_eight : List ℕ → List Bool
first_eight w = is_a w 0 ∷ is_a w 1 ∷ is_a w 2 ∷ is_a w 3 ∷ is_a w 4 ∷ is_a w 5 ∷ is_a w 6 ∷ is_a w 7 ∷ []

pub eight : (w : List ℕ) → first_eight w ≡ over (flags w) (replicate 8 false)
unfolding first_eight is_a flags over
eight [] = refl
eight (a ∷ []) = refl
eight (a ∷ b ∷ []) = refl
eight (a ∷ b ∷ c ∷ []) = refl
eight (a ∷ b ∷ c ∷ d ∷ []) = refl
eight (a ∷ b ∷ c ∷ d ∷ e ∷ []) = refl
eight (a ∷ b ∷ c ∷ d ∷ e ∷ f ∷ []) = refl
eight (a ∷ b ∷ c ∷ d ∷ e ∷ f ∷ g ∷ []) = refl
eight (a ∷ b ∷ c ∷ d ∷ e ∷ f ∷ g ∷ h ∷ []) = refl
eight (a ∷ b ∷ c ∷ d ∷ e ∷ f ∷ g ∷ h ∷ i ∷ w) = refl

-- ---- the flags, one by one

pub length-flags : (l : List ℕ) → length (flags l) ≡ length l
unfolding flags
length-flags [] = refl
length-flags (b ∷ l) = ap suc (length-flags l)

pub flag_at : (l : List ℕ) (i : ℕ) → i < length l → get_or (flags l) i false ≡ eqb (get_or l i 0) 65
unfolding flags
flag_at [] i h = absurd (omega arith)
flag_at (b ∷ l) zero h = refl
flag_at (b ∷ l) (suc i) h = flag_at l i (le_of_suc-le-suc h)
