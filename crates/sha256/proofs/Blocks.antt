-- The blocks of a padded message, as the code reads them, are FIPS 180-4's.
use Rattle.std.proofs.Common.{◌≡◌, ℕ, zero, suc, ◌+◌, ◌-◌, ◌*◌, ◌/◌, ◌%◌, ◌^◌, ◌<◌, ◌≤◌, List, [], ◌∷◌, ◌++◌, length, get_or, drop, replicate, sym, refl, ap, ◌∙◌, ap₂, append_assoc, add-zero, add_assoc, arith, length-append, length-drop, get_or-drop, drop-drop, get_or-append-add}
use Rattle.std.proofs.Math.ListN.{length-replicate, get_or-append}
use Rattle.std.proofs.Math.Pow.{mod-pow-add}
use Rattle.std.proofs.Math.Seq.{drop-append-le}
use Rattle.sha256.specs.Words.{word_at, words_at, bytes_of}
use Rattle.sha256.specs.Padding.{zeros, length_field, ending, padded, blocks, block}
use Rattle.sha256.specs.Laws.{padding_in_bytes, length-padded}
use Rattle.sha256.specs.Marked.{marked, closing}

-- ---- words of lists that agree

pub word-drop : (at k : ℕ) (l : List ℕ) → word_at k (drop at l) ≡ word_at (at + k) l
unfolding word_at
word-drop at k l = simp (get_or-drop, add_assoc)

pub at_zero : (at : ℕ) (l : List ℕ) → word_at at l ≡ word_at 0 (drop at l)
at_zero at l = rw (word-drop at 0 l, add-zero at)

-- the lists a and b have the same elements from place `at` up to, not including, `to`
abbrev Agree : ℕ → ℕ → List ℕ → List ℕ → Type 0
Agree at to a b = (p : ℕ) → at ≤ p → p < to → get_or a p 0 ≡ get_or b p 0

word-agree : (at : ℕ) (a b : List ℕ) → Agree at (at + 4) a b → word_at at a ≡ word_at at b
unfolding word_at
word-agree at a b h =
    rw (h at (omega arith) (omega arith), h (at + 1) (omega arith) (omega arith), h (at + 2) (omega arith) (omega arith), h (at + 3) (omega arith) (omega arith))

words-agree : (n at : ℕ) (a b : List ℕ) → Agree at (at + 4 * n) a b → words_at n at a ≡ words_at n at b
unfolding words_at
words-agree zero at a b h = refl
words-agree (suc n) at a b h =
    ap₂ (λ (x : ℕ) (l : List ℕ). x ∷ l)
    (word-agree at a b (λ p u v. h p u (omega arith)))
    (words-agree n (at + 4) a b (λ p u v. h p (omega arith) (omega arith)))

-- ---- the bytes behind a message

-- zeros behind a list are what is read behind its end anyway
get_or-zeros : (l : List ℕ) (z p : ℕ) → get_or (l ++ replicate z 0) p 0 ≡ get_or l p 0
get_or-zeros [] zero p = refl
get_or-zeros [] (suc z) zero = refl
get_or-zeros [] (suc z) (suc p) = get_or-zeros [] z p
get_or-zeros (x ∷ l) z zero = refl
get_or-zeros (x ∷ l) z (suc p) = get_or-zeros l z p

-- the rest of a message with its ending, as marked bytes, zeros and the length
grouped : (rest : List ℕ) (n : ℕ) → rest ++ ending n ≡ (marked rest ++ replicate (zeros n) 0) ++ length_field (8 * n)
unfolding ending marked
grouped rest n = simp append_assoc

module _ (rest : List ℕ) (n : ℕ) where
  front : ℕ
  front = length rest + 1 + zeros n

  length_front : length (marked rest ++ replicate (zeros n) 0) ≡ front
  unfolding front marked
  length_front = simp (length-append, length-replicate)

  -- up to the length field the marked bytes are the message's
  before-length : Agree 0 front (rest ++ ending n) (marked rest)
  before-length p u v =
      let h : p < length (marked rest ++ replicate (zeros n) 0) = rw length_front v in
      rw (grouped rest n, get_or-append (marked rest ++ replicate (zeros n) 0) (length_field (8 * n)) 0 p h) (get_or-zeros (marked rest) (zeros n) p)

  field_at : (k : ℕ) → get_or (rest ++ ending n) (front + k) 0 ≡ get_or (length_field (8 * n)) k 0
  field_at k = rw (grouped rest n, ← length_front) (get_or-append-add (marked rest ++ replicate (zeros n) 0) (length_field (8 * n)) k 0)

-- a word's four bytes are the word, of 32 bits
word_of_bytes : (x : ℕ) → x / 2 ^ 24 % 256 * 2 ^ 24 + x / 2 ^ 16 % 256 * 2 ^ 16 + x / 2 ^ 8 % 256 * 2 ^ 8 + x % 256 ≡ x % 2 ^ 32
word_of_bytes x = rw (mod-pow-add x 8 24, mod-pow-add x 8 16, mod-pow-add x 8 8) (simp add_assoc)

-- the two words of the length stand at its place
module _ (rest : List ℕ) (n : ℕ) where
  upper-word : word_at (front rest n) (rest ++ ending n) ≡ 8 * n / 2 ^ 32 % 2 ^ 32
  unfolding word_at length_field bytes_of
  upper-word =
      let z : get_or (rest ++ ending n) (front rest n) 0 ≡ get_or (length_field (8 * n)) 0 0 = rw (add-zero (front rest n)) at (field_at rest n 0) in
      rw (z, field_at rest n 1, field_at rest n 2, field_at rest n 3) (word_of_bytes (8 * n / 2 ^ 32))

  lower_word : word_at (front rest n + 4) (rest ++ ending n) ≡ 8 * n % 2 ^ 32
  unfolding word_at length_field bytes_of
  lower_word =
      rw (add_assoc (front rest n) 4 1, add_assoc (front rest n) 4 2, add_assoc (front rest n) 4 3, field_at rest n 4, field_at rest n 5, field_at rest n 6, field_at rest n 7)
      (word_of_bytes (8 * n))

  -- sixteen words from place `at` on that end with the length
  closing-words : (at : ℕ) → at + 56 ≡ front rest n → words_at 16 0 (drop at (rest ++ ending n)) ≡ closing at n rest
  unfolding words_at closing
  closing-words at e =
      let low-place : at + 60 ≡ front rest n + 4 = omega arith in
      ap₂ (λ (l t : List ℕ). l ++ t)
      (words-agree 14 0 (drop at (rest ++ ending n)) (drop at (marked rest))
      (λ p u v. rw (get_or-drop at (rest ++ ending n) p 0, get_or-drop at (marked rest) p 0) (before-length rest n (at + p) (omega arith) (omega arith))))
      (ap₂ (λ (x y : ℕ). x ∷ y ∷ [])
      (rw (word-drop at 56 (rest ++ ending n), e) upper-word)
      (rw (word-drop at 60 (rest ++ ending n), low-place) lower_word))

  -- sixteen words that end before the length
  marked-words : 64 ≤ front rest n → words_at 16 0 (rest ++ ending n) ≡ words_at 16 0 (marked rest)
  marked-words h = words-agree 16 0 (rest ++ ending n) (marked rest) (λ p u v. before-length rest n p u (omega arith))

-- ---- the three kinds of block

pub count-blocks : (m : List ℕ) → (length m + 1 + zeros (length m) + 8) / 64 ≡ blocks m
unfolding blocks
count-blocks m = rw (length-padded m)

module _ (m : List ℕ) (i : ℕ) where
  -- inside the message
  pub inside : i * 64 + 64 ≤ length m → words_at 16 0 (drop (i * 64) m) ≡ block i (padded m)
  unfolding block padded
  inside h =
      words-agree 16 0 (drop (i * 64) m) (drop (64 * i) (m ++ ending (length m)))
      (λ p u v.
      let e : i * 64 + p ≡ 64 * i + p = omega arith in
      let t : 64 * i + p < length m = omega arith in
      rw (get_or-drop (i * 64) m p 0, get_or-drop (64 * i) (m ++ ending (length m)) p 0, e, get_or-append m (ending (length m)) 0 (64 * i + p) t))

  -- there are at most two blocks behind the whole ones
  pub near : i < blocks m → i ≤ length m / 64 + 1
  unfolding blocks
  near h =
      let n : length (padded m) ≡ length m + 1 + zeros (length m) + 8 = length-padded m in
      omega (arith, padding_in_bytes (length m))

  -- behind the whole blocks
  behind : (from at : ℕ) → from ≤ length m → 64 * i ≡ from + at → drop (64 * i) (padded m) ≡ drop at (drop from m ++ ending (length m))
  unfolding padded
  behind from at h e = rw (e, ← drop-drop at from (m ++ ending (length m)), drop-append-le from m (ending (length m)) h)

  module _ (from : ℕ) (s : from ≡ length m / 64 * 64) where
    left : length (drop from m) ≡ length m % 64
    left = rw (length-drop from m) (omega arith)

    -- the last bytes leave no room for the length
    pub marks : length m / 64 ≤ i → (i - length m / 64) * 64 + 56 ≤ length (drop from m) → words_at 16 0 (marked (drop from m)) ≡ block i (padded m)
    unfolding block front
    marks e h =
        let r : length (drop from m) ≡ length m % 64 = left in
        let z : 64 ≤ front (drop from m) (length m) = omega (arith, padding_in_bytes (length m)) in
        let u : 64 * i ≡ from + 0 = omega arith in
        sym (ap (words_at 16 0) (behind from 0 (omega arith) u) ∙ marked-words (drop from m) (length m) z)

    -- or they do, or stand in the block before
    pub closes : length m / 64 ≤ i → i < blocks m → length (drop from m) < (i - length m / 64) * 64 + 56
        → closing ((i - length m / 64) * 64) (length m) (drop from m) ≡ block i (padded m)
    unfolding block blocks front
    closes e h k =
        let at : ℕ = (i - length m / 64) * 64 in
        let r : length (drop from m) ≡ length m % 64 = left in
        let n : length (padded m) ≡ length m + 1 + zeros (length m) + 8 = length-padded m in
        let z : (i - length m / 64) * 64 + 56 ≡ front (drop from m) (length m) = omega (arith, padding_in_bytes (length m)) in
        let u : 64 * i ≡ from + (i - length m / 64) * 64 = omega arith in
        sym (ap (words_at 16 0) (behind from at (omega arith) u) ∙ closing-words (drop from m) (length m) at z)
