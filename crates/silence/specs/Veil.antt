-- The terminal behind the mask: the plan and the guard are as they were, and each partition is as it was but for a login record.
use Rattle.std.specs.Prelude.{Bool, cond, ℕ, eqb}
use Rattle.state.specs.declared.Partition.{Partition}
use Rattle.state.specs.declared.State.{State}
use Rattle.state.specs.Parts.{part_at, with_part, with_login}
use Rattle.silence.specs.Mask.{seen}

-- ---- the state behind the mask

-- partition p as the mask of q shows it
unfoldable pub veiled : Bool → ℕ → ℕ → Partition → Partition
veiled kept q p x = with_login (cond (eqb p q) (seen kept x.login) x.login) x

unfoldable pub veil : Bool → ℕ → State → State
veil kept q s = with_part q (with_login (seen kept (part_at s q).login) (part_at s q)) s
