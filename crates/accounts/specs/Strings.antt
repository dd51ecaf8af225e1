-- The strings that a caller hands in: "A string ends at its first zero, which must stand at place 0 to 32, else INVALID_STRING."
use Rattle.std.specs.Prelude.{Bool, List, ℕ, ltb, length, take}
use Rattle.octets.specs.Search.{index_of}

-- the place of the first zero among the first 33 bytes, or how many those are where none is zero
unfoldable pub ending : List ℕ → ℕ
ending s = index_of 0 (take 33 s)

-- one of them is zero
unfoldable pub is_string : List ℕ → Bool
is_string s = ltb (ending s) (length (take 33 s))

-- what stands before it
unfoldable pub string_of : List ℕ → List ℕ
string_of s = take (ending s) s
