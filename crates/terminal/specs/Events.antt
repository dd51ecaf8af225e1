-- The events: what moves in the state, with the plan as it was.
use Rattle.std.specs.Prelude.{Bool, ℕ}
use Rattle.guard.specs.Events.{key as pressed, attention as attended, fault as flagged}
use Rattle.terminal.specs.declared.Terminal.{Terminal}
use Rattle.terminal.specs.Terminal.{with_state}

unfoldable pub key : ℕ → Terminal → Terminal
key byte t = with_state (pressed byte t.plan t.state) t

unfoldable pub attention : Terminal → Terminal
attention t = with_state (attended t.plan t.state) t

unfoldable pub fault : ℕ → ℕ → Bool → Terminal → Terminal
fault p device set t = with_state (flagged p device set t.plan t.state) t
