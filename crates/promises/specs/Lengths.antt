-- What no move and no run changes: the plan that start fixed, the permission table, how many partitions there are, and how long each area and buffer is.
use Rattle.std.specs.Prelude.{◌≡◌, length}
use Rattle.terminal.specs.declared.Terminal.{Terminal}
use Rattle.steps.specs.World.{World}

-- two terminals with the same plan and as many partitions
pub record SamePlan (old new : Terminal) : Type 0 where
  pub plan : new.plan ≡ old.plan
  pub partitions : length new.state.partitions ≡ length old.state.partitions

-- two worlds that differ in nothing but what a move can move
pub record SameFrame (old new : World) : Type 0 where
  pub terminal : SamePlan old.terminal new.terminal
  pub permissions : new.permissions ≡ old.permissions
  pub store : length new.store ≡ length old.store
  pub arena : length new.arena ≡ length old.arena
  pub tables : length new.tables ≡ length old.tables
  pub screens : length new.screens ≡ length old.screens
