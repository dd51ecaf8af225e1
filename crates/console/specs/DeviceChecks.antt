-- The refusals of the four device calls, in their order.
use Rattle.std.specs.Prelude.{Bool, cond, not, ◌&&◌, ◌||◌, List, [], ◌∷◌, ℕ, eqb, ltb}
use Rattle.checks.specs.Checks.{Check, ◌when◌}
use Rattle.devices.specs.Queue.{held}
use Rattle.state.specs.declared.Partition.{Partition}
use Rattle.state.specs.Parts.{faulty}

-- "NO_DATA (empty keyboard; next-read of a screen always)"
unfoldable pub no_data : ℕ → Partition → Bool
no_data major x = eqb major 2 || eqb (held x.keyboard) 0

-- "Keyboard major 1, screen major 2, minor = partition". `random`: a random call; `writes`: a writing call; a call that is not random has
-- offset 0. `room` is how long the lent part is.
unfoldable pub device_checks : Bool → Bool → Partition → ℕ → ℕ → ℕ → ℕ → ℕ → ℕ → List Check
device_checks random writes x p major minor offset request room =
    (204 when not (eqb major 1 || eqb major 2)) ∷
    (208 when (random && eqb major 1)) ∷
    (205 when not (eqb minor p)) ∷
    (202 when (writes && eqb major 1)) ∷
    (209 when ltb 2000 offset) ∷
    (210 when eqb offset 2000) ∷
    (214 when ltb room request) ∷
    (cond writes 203 207 when faulty major x) ∷
    (206 when (not writes && (not random && no_data major x))) ∷ []
