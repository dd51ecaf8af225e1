-- docs/REPLAY.md: a screen's rows.
use Rattle.std.specs.Prelude.{cond, ◌&&◌, List, [], ◌∷◌, ℕ, leb}

-- "a dot stands for each byte below 32 or above 126"
unfoldable pub shown_byte : ℕ → ℕ
shown_byte b = cond (leb 32 b && leb b 126) b 46

unfoldable pub shown : List ℕ → List ℕ
shown [] = []
shown (b ∷ l) = shown_byte b ∷ shown l
