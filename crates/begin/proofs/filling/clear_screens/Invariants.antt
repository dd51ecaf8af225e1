-- `begin::filling::clear_screens` meets its contract. The loop's invariant: the first p partitions' screens are cleared where they are active. Assumes
-- nothing.
use Rattle.std.proofs.Common.{◌≡◌}
use Rattle.begin.specs.Filled.{cleared}
use Rattle.begin.proofs.filling.clear_screens.Given as goal

abbrev pub invariant-loop-p : goal.invariant-loop-p
invariant-loop-p l = l.screens ≡ cleared l.plan l.p l.initial.screens
