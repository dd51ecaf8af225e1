-- docs/REPLAY.md: bytes as hex digits.
use Rattle.std.specs.Prelude.{Bool, true, cond, ◌&&◌, ◌||◌, List, [], ◌∷◌, ℕ, ◌+◌, ◌-◌, ◌*◌, ◌/◌, ◌%◌, eqb, leb, ltb, length, Option, Some, None}
use Rattle.octets.specs.Same.{same_bytes}

-- "the hex digits 0 to 9 and a to f"
abbrev pub is_hex : ℕ → Bool
is_hex b = (leb 48 b && leb b 57) || (leb 97 b && leb b 102)

-- what a digit counts
unfoldable pub worth : ℕ → ℕ
worth b = cond (is_hex b) (cond (ltb b 97) (b - 48) (b - 87)) 0

unfoldable pub all_hex : List ℕ → Bool
all_hex [] = true
all_hex (b ∷ l) = is_hex b && all_hex l

-- "BYTES is a row of bytes, two hex digits to each, or a single `-` where there is none": how many bytes those are
unfoldable pub size_of : List ℕ → Option ℕ
size_of w =
    cond (same_bytes w (45 ∷ [])) (Some 0)
    (cond (ltb 0 (length w) && (eqb (length w % 2) 0 && all_hex w)) (Some (length w / 2)) None)

-- the bytes, two digits for each, the higher first
unfoldable pub bytes_of : List ℕ → List ℕ
bytes_of [] = []
bytes_of (a ∷ []) = []
bytes_of (a ∷ b ∷ l) = (worth a * 16 + worth b) ∷ bytes_of l

-- the digit for a number below 16
unfoldable pub hex_digit : ℕ → ℕ
hex_digit n = cond (ltb n 10) (48 + n) (87 + n % 16)

unfoldable pub hex_of : List ℕ → List ℕ
hex_of [] = []
hex_of (b ∷ l) = hex_digit (b / 16) ∷ hex_digit (b % 16) ∷ hex_of l

-- bytes as they are printed: "a single `-` where there is none"
unfoldable pub spelled : List ℕ → List ℕ
spelled [] = 45 ∷ []
spelled (b ∷ l) = hex_of (b ∷ l)
