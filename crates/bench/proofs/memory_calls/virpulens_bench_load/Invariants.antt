use Rattle.std.proofs.Common.{◌≡◌}
use Rattle.terminal.specs.Terminal.{outcome}
use Rattle.bench.specs.Scene.{scene}
use Rattle.bench.specs.Turns.{turns}
use Rattle.bench.specs.Steps.{load_turn}
use Rattle.bench.proofs.memory_calls.virpulens_bench_load.Given as goal

abbrev pub invariant-loop : goal.invariant-loop
invariant-loop l = outcome l.last l.buffer ≡ turns l.counter (load_turn l.partition l.selector l.offset (scene l.initial.last l.arena l.tables l.screens l.permissions)) (outcome l.initial.last l.initial.buffer)
