use Rattle.std.proofs.Common.{◌≡◌, []}
use Rattle.terminal.specs.Terminal.{outcome}
use Rattle.bench.specs.Scene.{scene}
use Rattle.bench.specs.Turns.{turns}
use Rattle.bench.specs.Steps.{shutdown_turn}
use Rattle.bench.proofs.stop_calls.virpulens_bench_shutdown.Given as goal

abbrev pub invariant-loop : goal.invariant-loop
invariant-loop l = outcome l.last l.screens ≡ turns l.counter (shutdown_turn l.partition l.message (scene l.first l.arena l.tables l.initial.screens [])) (outcome l.first l.initial.screens)
