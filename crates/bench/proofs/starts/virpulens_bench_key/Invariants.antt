use Rattle.std.proofs.Common.{◌≡◌}
use Rattle.terminal.specs.Events.{key}
use Rattle.bench.specs.Turns.{turns}
use Rattle.bench.proofs.starts.virpulens_bench_key.Given as goal

abbrev pub invariant-loop : goal.invariant-loop
invariant-loop l = l.last ≡ turns l.counter (key l.byte) l.initial.last
