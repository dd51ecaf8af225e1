-- `guard::events::seek` meets its contract. The loop's invariant: the search from here ends where the search from the start does.
-- Assumes nothing.
use Rattle.std.proofs.Common.{◌≡◌, ◌-◌}
use Rattle.guard.specs.Events.{behind, seek}
use Rattle.guard.proofs.events.seek.Given as goal

abbrev pub invariant-loop-looked : goal.invariant-loop-looked
invariant-loop-looked l = seek (8 - l._looked) l.plan l.at ≡ seek 8 l.plan (behind l.plan l.p)
