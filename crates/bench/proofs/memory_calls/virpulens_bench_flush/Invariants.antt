use Rattle.std.proofs.Common.{◌≡◌}
use Rattle.terminal.specs.Terminal.{outcome}
use Rattle.bench.specs.Scene.{scene}
use Rattle.bench.specs.Turns.{turns}
use Rattle.bench.specs.Steps.{flush_turn}
use Rattle.bench.proofs.memory_calls.virpulens_bench_flush.Given as goal

abbrev pub invariant-loop : goal.invariant-loop
invariant-loop l = outcome l.last l.store ≡ turns l.counter (flush_turn l.partition l.selector l.taken (scene l.initial.last l.arena l.tables l.screens l.permissions)) (outcome l.initial.last l.initial.store)
