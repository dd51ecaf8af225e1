use Rattle.std.proofs.Common.{◌≡◌}
use Rattle.terminal.specs.Terminal.{outcome}
use Rattle.bench.specs.Scene.{scene}
use Rattle.bench.specs.Turns.{turns}
use Rattle.bench.specs.Steps.{store_turn}
use Rattle.bench.proofs.memory_calls.virpulens_bench_store.Given as goal

abbrev pub invariant-loop : goal.invariant-loop
invariant-loop l = outcome l.last l.arena ≡ turns l.counter (store_turn l.partition l.selector l.offset l.bytes (scene l.initial.last l.initial.arena l.tables l.screens l.permissions)) (outcome l.initial.last l.initial.arena)
