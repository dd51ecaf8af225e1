-- Laws of cells as they are shown, one by one.
use Rattle.std.specs.Prelude.{List, [], ◌∷◌, ◌++◌, ◌≡◌, refl, ℕ, zero, suc, ◌+◌, ◌<◌, length, take, get_or}
use Rattle.std.proofs.Common.{ap, le_of_suc-le-suc, arith}
use Rattle.std.proofs.lemmas.List.{take_more}
use Rattle.replay_text.specs.Shown.{shown_byte, shown}

shown-append : (l m : List ℕ) → shown (l ++ m) ≡ shown l ++ shown m
unfolding shown
shown-append [] m = refl
shown-append (b ∷ l) m = rw (shown-append l m)

pub shown-more : (l : List ℕ) (i : ℕ) → i < length l → shown (take i l) ++ (shown_byte (get_or l i 0) ∷ []) ≡ shown (take (i + 1) l)
unfolding shown
shown-more l i h = rw (take_more l i 0 h, shown-append)

pub length-shown : (l : List ℕ) → length (shown l) ≡ length l
unfolding shown
length-shown [] = refl
length-shown (b ∷ l) = ap suc (length-shown l)

pub shown-at : (l : List ℕ) (i : ℕ) → i < length l → get_or (shown l) i 0 ≡ shown_byte (get_or l i 0)
unfolding shown
shown-at [] i h = absurd (omega arith)
shown-at (b ∷ l) zero h = refl
shown-at (b ∷ l) (suc i) h = shown-at l i (le_of_suc-le-suc h)
