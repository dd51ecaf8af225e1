-- Each case takes some bytes, so what is left of the input gets shorter.
use Rattle.std.proofs.Common.{length}
use Rattle.store_cases.proofs.cases.Given as goal

abbrev pub decreases-loop-rest : goal.decreases-loop-rest
decreases-loop-rest l = length l.rest
