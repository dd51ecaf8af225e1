-- The set-up text: gaps between tokens. A comment goes from its mark to the end of its line, everywhere.
use Rattle.std.specs.Prelude.{Bool, true, false, cond, not, List, [], ◌∷◌, ℕ, suc, ◌+◌, eqb, take, drop}
use Rattle.text.specs.Bytes.{separates}

-- where the gap ends that goes on with the bytes l, of which the first stands at place i; in a comment, or not
unfoldable pub gap_from : Bool → List ℕ → ℕ → ℕ
gap_from comment [] i = i
gap_from true (b ∷ l) i = gap_from (not (eqb b 10)) l (suc i)
gap_from false (b ∷ l) i = cond (eqb b 35) (gap_from true l (suc i)) (cond (separates b) (gap_from false l (suc i)) i)

-- the place of the first token from place `at` on: the text's end where there is none
unfoldable pub token_place : List ℕ → ℕ → ℕ
token_place text at = gap_from false (drop at text) at

-- how many line feeds
unfoldable pub line_feeds : List ℕ → ℕ
line_feeds [] = 0
line_feeds (b ∷ l) = cond (eqb b 10) (suc (line_feeds l)) (line_feeds l)

-- lines count from 1
unfoldable pub line_of : List ℕ → ℕ → ℕ
line_of text at = 1 + line_feeds (take at text)
