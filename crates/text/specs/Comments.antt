-- The comment rule as a reader thinks of it: every comment is blanked first. BlankedLaws has that every token is the same then.
use Rattle.std.specs.Prelude.{Bool, true, false, cond, ◌&&◌, not, List, [], ◌∷◌, ◌⊎◌, ◌≡◌, ℕ, ◌≤◌, eqb, length, take}

-- every byte from a '#' up to, not including, the line feed becomes a space
unfoldable pub blanked_from : Bool → List ℕ → List ℕ
blanked_from comment [] = []
blanked_from true (b ∷ l) = cond (eqb b 10) (b ∷ blanked_from false l) (32 ∷ blanked_from true l)
blanked_from false (b ∷ l) = cond (eqb b 35) (32 ∷ blanked_from true l) (b ∷ blanked_from false l)

unfoldable pub blanked : List ℕ → List ℕ
blanked text = blanked_from false text

-- whether a comment goes on behind the bytes l; in a comment, or not, before them
unfoldable pub comment_behind : Bool → List ℕ → Bool
comment_behind comment [] = comment
comment_behind true (b ∷ l) = comment_behind (not (eqb b 10)) l
comment_behind false (b ∷ l) = comment_behind (eqb b 35) l

-- a place that is not inside a comment: none goes on there, or the text has ended
abbrev pub Outside : List ℕ → ℕ → Type 0
Outside text at = (comment_behind false (take at text) ≡ false) ⊎ (length text ≤ at)

-- a word that a comment cannot be taken for: no space and no '#' in it
unfoldable pub plain : List ℕ → Bool
plain [] = true
plain (b ∷ l) = (not (eqb b 32) && not (eqb b 35)) && plain l
