-- FIPS 180-4, sections 2.2.2, 3.1 and 3.2: words of w = 32 bits. A word is a number below 2 ^ 32.
use Rattle.std.specs.Prelude.{ℕ, zero, suc, ◌+◌, ◌-◌, ◌*◌, ◌/◌, ◌%◌, ◌^◌, List, [], ◌∷◌, bit_or, slice_index}

-- 3.2, 2: addition modulo 2 ^ w
unfoldable pub add : ℕ → ℕ → ℕ
add x y = (x + y) % 2 ^ 32

-- 2.2.2: the complement of each bit
unfoldable pub complement : ℕ → ℕ
complement x = (2 ^ 32 - 1) - x

-- 2.2.2: the left shift; bits that leave the word are discarded, zeros come in
unfoldable pub shl : ℕ → ℕ → ℕ
shl n x = (x * 2 ^ n) % 2 ^ 32

-- 3.2, 3: the right shift SHR
unfoldable pub shr : ℕ → ℕ → ℕ
shr n x = x / 2 ^ n

-- 3.2, 4: the rotation to the right ROTR, for 0 ≤ n < w
unfoldable pub rotr : ℕ → ℕ → ℕ
unfolding shl shr
rotr n x = bit_or (shr n x) (shl (32 - n) x)

-- 3.1: four bytes are a word, the highest first. The word at place `at` of a row of bytes
unfoldable pub word_at : ℕ → List ℕ → ℕ
word_at at l = slice_index l at * 2 ^ 24 + slice_index l (at + 1) * 2 ^ 16 + slice_index l (at + 2) * 2 ^ 8 + slice_index l (at + 3)

-- the n words from place `at` on
unfoldable pub words_at : ℕ → ℕ → List ℕ → List ℕ
words_at zero at l = []
words_at (suc n) at l = word_at at l ∷ words_at n (at + 4) l

-- 3.1: a word as four bytes
unfoldable pub bytes_of : ℕ → List ℕ
bytes_of x = x / 2 ^ 24 % 256 ∷ x / 2 ^ 16 % 256 ∷ x / 2 ^ 8 % 256 ∷ x % 256 ∷ []
