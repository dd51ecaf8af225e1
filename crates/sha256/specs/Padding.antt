-- FIPS 180-4, sections 5.1.1 and 5.2.1: a message is filled up to whole blocks of 512 bits, and taken apart into them.
use Rattle.std.specs.Prelude.{ℕ, ◌-◌, ◌*◌, ◌/◌, ◌%◌, ◌^◌, List, ◌∷◌, ◌++◌, length, drop, replicate}
use Rattle.sha256.specs.Words.{words_at, bytes_of}

-- 5.1.1: how many zero bytes stand between the byte that begins with the bit 1 and the length of a message of n bytes. `padding_rule`
-- of Laws says that this is the standard's smallest solution
unfoldable pub zeros : ℕ → ℕ
zeros n = (119 - n % 64) % 64

-- 5.1.1 and 3.1: the length in bits as a pair of words, the upper first. FIPS 180-4 defines digests of messages shorter than 2 ^ 64 bits;
-- for a longer one (2 ^ 61 bytes and more) the field holds the length modulo 2 ^ 64, since a word has 32 bits
unfoldable pub length_field : ℕ → List ℕ
unfolding bytes_of
length_field bits = bytes_of (bits / 2 ^ 32) ++ bytes_of bits

-- 5.1.1: what is appended to a message of n bytes: the bit 1, zeros, and the length in bits
unfoldable pub ending : ℕ → List ℕ
ending n = 0x80 ∷ (replicate (zeros n) 0 ++ length_field (8 * n))

unfoldable pub padded : List ℕ → List ℕ
padded m = m ++ ending (length m)

-- 5.2.1: how many blocks of 64 bytes that is
unfoldable pub blocks : List ℕ → ℕ
blocks m = length (padded m) / 64

-- 5.2.1: the block M(i), counted from 0: sixteen words
unfoldable pub block : ℕ → List ℕ → List ℕ
block i p = words_at 16 0 (drop (64 * i) p)
