use Rattle.std.proofs.Common.{◌≡◌}
use Rattle.sha256.specs.Padding.{padded}
use Rattle.sha256.specs.Digest.{hash}
use Rattle.sha256.proofs.digest.Given as goal

abbrev pub invariant-loop-i : goal.invariant-loop-i
invariant-loop-i l = l.state ≡ hash l.i (padded l.message)
