-- The schedule as the code holds it: sixteen words at a time. Beside the first t words of W the rounds need only W(t) to W(t + 15),
-- from which W(t + 16) comes. `sixteen_at-a_time` of Laws says that this is FIPS 180-4's schedule.
use Rattle.std.specs.Prelude.{ℕ, ◌*◌, List, [], ◌∷◌, ◌++◌, take, drop, slice_index}
use Rattle.sha256.specs.Constants.{K}
use Rattle.sha256.specs.Compression.{next_word, round}
use Rattle.sha256.specs.declared.rounds.Turn.{Turn}

-- the window one word further on
unfoldable pub slide : List ℕ → List ℕ
slide W = drop 1 W ++ (next_word 16 W ∷ [])

-- one round on the window's first word, and the window one word further on
unfoldable pub step : ℕ → Turn → Turn
step k x = record { state = round k (slice_index x.window 0) x.state; window = slide x.window }

-- a round for each of these constants
unfoldable pub steps : List ℕ → Turn → Turn
steps [] x = x
steps (k ∷ ks) x = steps ks (step k x)

-- the constants of rounds 16 q to 16 q + 15
unfoldable pub quarter : ℕ → List ℕ
quarter q = take 16 (drop (16 * q) K)
