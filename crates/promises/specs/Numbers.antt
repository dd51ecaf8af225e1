-- Demand 1: "A refusal gives its number from document 01". Which numbers 01 gives each move, that no move is answered another, and "Refused counts are 0, save
-- login's at AUTH_FAILURE".
use Rattle.std.specs.Prelude.{Bool, true, false, not, ◌&&◌, ◌||◌, List, [], ◌∷◌, ℕ, eqb}
use Rattle.checks.specs.Checks.{Check}
use Rattle.steps.specs.World.{Move}
use Rattle.steps.specs.World.Move.{ReadNext, ReadRandom, WriteNext, WriteRandom, Load, Store, Flush, Login, Who, Logout, SetPassword, Shutdown, Powerdown, Configuration, Key, Attention, Fault}

-- ---- the numbers

-- "First BAD_STATE .., then STOPPED, then BAD_PARTITION .., then" more
abbrev pub common : List ℕ → List ℕ
common more = 0 ∷ 216 ∷ 212 ∷ 213 ∷ more

-- the numbers of each call, in the order of 01's checks; an event has no answer
unfoldable pub numbers_of : Move → List ℕ
numbers_of (ReadNext p major minor request buffer) = common (204 ∷ 205 ∷ 214 ∷ 207 ∷ 206 ∷ [])
numbers_of (ReadRandom p major minor offset request buffer) = common (204 ∷ 208 ∷ 205 ∷ 209 ∷ 210 ∷ 214 ∷ 207 ∷ [])
numbers_of (WriteNext p major minor request bytes) = common (204 ∷ 205 ∷ 202 ∷ 214 ∷ 203 ∷ [])
numbers_of (WriteRandom p major minor offset request bytes) = common (204 ∷ 208 ∷ 205 ∷ 202 ∷ 209 ∷ 210 ∷ 214 ∷ 203 ∷ [])
numbers_of (Load p selector offset buffer) = common (211 ∷ 209 ∷ [])
numbers_of (Store p selector offset bytes) = common (211 ∷ 202 ∷ 209 ∷ [])
numbers_of (Flush p selector taken) = common (211 ∷ 201 ∷ 202 ∷ 203 ∷ [])
numbers_of (Login p name password) = common (301 ∷ 302 ∷ 300 ∷ [])
numbers_of (Who p buffer) = common (214 ∷ [])
numbers_of (Logout p) = common []
numbers_of (SetPassword p password taken) = common (303 ∷ 302 ∷ 203 ∷ [])
numbers_of (Shutdown p message) = common []
numbers_of (Powerdown p) = common []
numbers_of (Configuration p buffer) = common (214 ∷ [])
numbers_of (Key byte) = 0 ∷ []
numbers_of Attention = 0 ∷ []
numbers_of (Fault p device set) = 0 ∷ []

-- n is one of a list's
unfoldable pub among : ℕ → List ℕ → Bool
among n [] = false
among n (x ∷ l) = eqb n x || among n l

-- ---- a chain of checks

-- each check that can be due gives one of the list's numbers
unfoldable pub within : List ℕ → List Check → Bool
within l [] = true
within l (c ∷ checks) = (among c.number l || not c.due) && within l checks
