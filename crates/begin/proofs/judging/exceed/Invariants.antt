-- `begin::judging::exceed` meets its contract. The loop's invariant: the sizes so far and what is left are the limit. Assumes nothing.
use Rattle.std.proofs.Common.{◌≡◌, ◌+◌, sum, take}
use Rattle.begin.proofs.judging.exceed.Given as goal

abbrev pub invariant-loop-size : goal.invariant-loop-size
invariant-loop-size l = sum (take l.size-index l.sizes) + l.rest ≡ l.limit
