use Rattle.std.proofs.Common.{◌≡◌, []}
use Rattle.terminal.specs.Terminal.{outcome}
use Rattle.bench.specs.Scene.{scene}
use Rattle.bench.specs.Turns.{turns}
use Rattle.bench.specs.Steps.{write_next_turn}
use Rattle.bench.proofs.device_calls.virpulens_bench_write_next.Given as goal

abbrev pub invariant-loop : goal.invariant-loop
invariant-loop l = outcome l.last l.screens ≡ turns l.counter (write_next_turn l.partition l.request l.bytes (scene l.initial.last l.arena l.tables l.initial.screens [])) (outcome l.initial.last l.initial.screens)
