use Rattle.std.proofs.Common.{◌≡◌}
use Rattle.terminal.specs.Terminal.{outcome}
use Rattle.bench.specs.Scene.{scene}
use Rattle.bench.specs.Turns.{turns}
use Rattle.bench.specs.Steps.{configuration_turn}
use Rattle.bench.proofs.memory_calls.virpulens_bench_configuration.Given as goal

abbrev pub invariant-loop : goal.invariant-loop
invariant-loop l = outcome l.last l.buffer ≡ turns l.counter (configuration_turn l.partition l.store (scene l.initial.last l.arena l.tables l.screens l.permissions)) (outcome l.initial.last l.initial.buffer)
