-- Demand 3, its second half: "If besides each of its logins gets the same answer number, and each of its new passwords is allowed in both or in neither, then those
-- answers, their work counts and the login record are the same too."
use Rattle.std.specs.Prelude.{false, ◌≡◌, ℕ, List, [], ◌∷◌}
use Rattle.accounts.specs.Strings.{is_string}
use Rattle.steps.specs.World.{World, Move, step}
use Rattle.steps.specs.World.Move.{Login, Who, SetPassword}
use Rattle.silence.specs.Mask.{own}

-- moves alike but for the passwords in q's login and set-password calls, made in two worlds, where "each of its logins gets the same answer number, and each of its
-- new passwords is allowed in both or in neither"
pub data Fair (q : ℕ) (w v : World) : Move → Move → Type 0 where
  others : (m : Move) → own q m ≡ false → Fair q w v m m
  asks : (buffer : List ℕ) → Fair q w v (Who q buffer) (Who q buffer)
  logins : (name password other : List ℕ) → (step w (Login q name password)).number ≡ (step v (Login q name other)).number
      → Fair q w v (Login q name password) (Login q name other)
  changes : (password other : List ℕ) (taken : ℕ) → is_string password ≡ is_string other → Fair q w v (SetPassword q password taken) (SetPassword q other taken)

-- ---- two runs

pub data FairRuns (q : ℕ) : World → World → List Move → List Move → Type 0 where
  none : {w v : World} → FairRuns q w v [] []
  more : {w v : World} {m n : Move} {ms ns : List Move} → Fair q w v m n → FairRuns q (step w m).world (step v n).world ms ns → FairRuns q w v (m ∷ ms) (n ∷ ns)
