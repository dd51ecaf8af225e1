-- docs/REPLAY.md: words and numbers.
use Rattle.std.specs.Prelude.{cond, List, [], ◌∷◌, ℕ, eqb, length, Option, Some, None}
use Rattle.text.specs.Gaps.{token_place}
use Rattle.text.specs.Tokens.{number_at}

-- one more byte in front of the first word
unfoldable pub onto : ℕ → List (List ℕ) → List (List ℕ)
onto b [] = (b ∷ []) ∷ []
onto b (w ∷ ws) = (b ∷ w) ∷ ws

-- "Between two words stands one space and nothing else": between two spaces stands an empty word
unfoldable pub words : List ℕ → List (List ℕ)
words [] = [] ∷ []
words (b ∷ l) = cond (eqb b 32) ([] ∷ words l) (onto b (words l))

-- the number, where it ends with the word
unfoldable pub whole : ℕ → Option (ℕ × ℕ) → Option ℕ
whole n (Some (value, next)) = cond (eqb next n) (Some value) None
whole n None = None

-- "A number is at least one of the digits 0 to 9, zeros in front included, and is no greater than 4,294,967,295": a set-up text's number that fills the word
unfoldable pub number_of : List ℕ → Option ℕ
number_of w = cond (eqb (token_place w 0) 0) (whole (length w) (number_at w 0)) None
