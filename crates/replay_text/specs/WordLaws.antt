-- Laws of words and numbers.
use Rattle.std.specs.Prelude.{Bool, cond, ◌&&◌, List, [], ◌∷◌, ◌≡◌, refl, ℕ, suc, ◌+◌, ◌-◌, ◌≤◌, min, eqb, leb, length, take, drop, Some, None}
use Rattle.std.proofs.Common.{arith}
use Rattle.std.proofs.Math.Dec.{leb-zero, leb-suc-suc}
use Rattle.std.proofs.Math.Nat.{add-sub_cancel_left}
use Rattle.std.proofs.Math.Seq.{take-length}
use Rattle.octets.specs.Search.{index_of, index_after, slice}
use Rattle.octets.specs.PartLaws.{drop_min}
use Rattle.text.specs.Gaps.{token_place}
use Rattle.text.specs.Steps.{split}
use Rattle.text.specs.Tokens.{number_at}
use Rattle.replay_text.specs.Words.{onto, words, whole, number_of}

-- ---- the next mark

pub before_all : (mark at from found : ℕ) (text : List ℕ) → from ≡ min at (length text)
    → found ≡ from + index_of mark (slice from (length text) text) → found - from ≡ index_of mark (drop at text)
unfolding slice
before_all mark at from found text e f = rw (f, add-sub_cancel_left, take-length, e, drop_min)

pub index_le : (mark : ℕ) (l : List ℕ) → index_of mark l ≤ length l
unfolding index_of index_after
index_le mark [] = omega arith
index_le mark (b ∷ l) = split (eqb b mark) (λ e. rw e (omega arith)) (λ e. rw e (omega (arith, index_le mark l)))

-- ---- numbers

pub number-none : (w : List ℕ) → number_at w 0 ≡ None → None ≡ number_of w
unfolding number_of whole
number-none w e = split (eqb (token_place w 0) 0) (λ t. rw (t, e)) (λ t. rw t)

pub number-some : (w : List ℕ) (p value next : ℕ) (t : Bool) → p ≡ token_place w 0 → number_at w 0 ≡ Some (value, next)
    → eqb p 0 && eqb next (length w) ≡ t → cond t (Some value) None ≡ number_of w
unfolding number_of whole
number-some w p value next t e f g =
    rw (← g, ← e, f) (split (eqb p 0) (λ u. rw u) (λ u. rw u))

-- ---- words

-- the first word, up to a space, and the words behind it
pub words-cut : (l : List ℕ)
    → words l ≡ take (index_of 32 l) l ∷ cond (leb (suc (index_of 32 l)) (length l)) (words (drop (suc (index_of 32 l)) l)) []
unfolding words onto index_of index_after
words-cut [] = refl
words-cut (b ∷ l) = split (eqb b 32) (λ e. rw (e, leb-suc-suc, leb-zero)) (λ e. rw (e, leb-suc-suc, words-cut l))
