-- docs/REPLAY.md: the letters of `partitions`.
use Rattle.std.specs.Prelude.{Bool, true, false, cond, Result, Ok, Err, ◌&&◌, ◌||◌, List, [], ◌∷◌, ℕ, min, eqb, ltb, length, replicate}
use Rattle.octets.specs.Lists.{over}
use Rattle.replay_text.specs.declared.letters.Letters.{Letters}

abbrev pub is_letter : ℕ → Bool
is_letter b = eqb b 65 || eqb b 80

-- "an A stands for an active partition and a P for a passive one"
unfoldable pub all_letters : List ℕ → Bool
all_letters [] = true
all_letters (b ∷ l) = is_letter b && all_letters l

-- which are A
unfoldable pub flags : List ℕ → List Bool
flags [] = []
flags (b ∷ l) = eqb b 65 ∷ flags l

-- how many there are, and which of the first eight are active, also of a word that is none
unfoldable pub counted : List ℕ → Letters
counted w = record { count = min (length w) 9; active = over (flags w) (replicate 8 false) }

-- "at least one letter"; "From the tenth letter on letters are checked and then ignored, since nine are enough to try a count that start refuses"
unfoldable pub letters_of : List ℕ → Result Letters Letters
letters_of w = cond (ltb 0 (length w) && all_letters w) (Ok (counted w)) (Err (counted w))
