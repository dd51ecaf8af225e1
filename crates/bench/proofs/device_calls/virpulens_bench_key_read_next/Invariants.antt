use Rattle.std.proofs.Common.{◌≡◌, []}
use Rattle.terminal.specs.Terminal.{outcome}
use Rattle.bench.specs.Scene.{scene}
use Rattle.bench.specs.Turns.{turns}
use Rattle.bench.specs.Steps.{read_next_turn}
use Rattle.bench.proofs.device_calls.virpulens_bench_key_read_next.Given as goal

abbrev pub invariant-loop : goal.invariant-loop
invariant-loop l = outcome l.last l.buffer ≡ turns l.counter (read_next_turn l.partition l.byte l.request (scene l.initial.last l.arena l.tables l.screens [])) (outcome l.initial.last l.initial.buffer)
