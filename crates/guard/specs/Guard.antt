-- The checks that every call begins with. "First BAD_STATE .., then STOPPED, then BAD_PARTITION (not an active
-- partition)".
use Rattle.std.specs.Prelude.{Bool, not, ◌||◌, [], ◌∷◌, ℕ}
use Rattle.checks.specs.Checks.{◌when◌, after}
use Rattle.state.specs.declared.Plan.{Plan}
use Rattle.state.specs.declared.State.{State}
use Rattle.state.specs.Parts.{is_active}
use Rattle.guard.specs.Test.{good}

-- `wrong`: "a lent area not as long as at start", or a password table that fails its test; which of these a call can meet is its own affair
unfoldable pub guard : Plan → State → Bool → ℕ → ℕ
guard plan s wrong p = after 0 ((216 when (wrong || not (good plan s))) ∷ (212 when s.stopped) ∷ (213 when not (is_active plan p)) ∷ [])
