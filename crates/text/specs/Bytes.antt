-- The set-up text: which bytes are what.
use Rattle.std.specs.Prelude.{Bool, ◌&&◌, ◌||◌, not, List, ℕ, eqb, leb, get_or}

-- the byte at a place. Behind the text's end stands 256, which is no byte and so is none of those below
abbrev pub byte_at : List ℕ → ℕ → ℕ
byte_at text at = get_or text at 256

-- "Space, tab and line feed separate"
abbrev pub separates : ℕ → Bool
separates b = eqb b 32 || (eqb b 9 || eqb b 10)

-- "Numbers are decimal"
abbrev pub is_digit : ℕ → Bool
is_digit b = leb 48 b && leb b 57

-- a path's bytes: "from 32 to 126, no quote mark and no '#'"
abbrev pub in_path : ℕ → Bool
in_path b = (leb 32 b && leb b 126) && (not (eqb b 34) && not (eqb b 35))

-- "unquoted it also has no space, comma, semicolon or brace"
abbrev pub in_bare_path : ℕ → Bool
in_bare_path b = in_path b && (not (eqb b 32) && (not (eqb b 44) && (not (eqb b 59) && (not (eqb b 123) && not (eqb b 125)))))
