-- The last one or two blocks as the code reads them: from the bytes that the whole blocks leave over.
-- proofs/Blocks.antt shows that they are the padded message's.
use Rattle.std.specs.Prelude.{ℕ, ◌*◌, ◌/◌, ◌%◌, ◌^◌, List, [], ◌∷◌, ◌++◌, drop}
use Rattle.sha256.specs.Words.{words_at}

-- the message's last bytes and the byte that begins with the bit 1; what is read behind that is 0
unfoldable pub marked : List ℕ → List ℕ
marked rest = rest ++ (0x80 ∷ [])

-- fourteen words from place `at` on, then the length of a message of n bytes, in bits, as two words
unfoldable pub closing : ℕ → ℕ → List ℕ → List ℕ
closing at n rest = words_at 14 0 (drop at (marked rest)) ++ (8 * n / 2 ^ 32 % 2 ^ 32 ∷ 8 * n % 2 ^ 32 ∷ [])
