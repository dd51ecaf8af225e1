use Rattle.std.proofs.Common.{◌≡◌}
use Rattle.bench.specs.Scene.{scene}
use Rattle.bench.specs.Turns.{turns}
use Rattle.bench.specs.Steps.{start_turn}
use Rattle.bench.proofs.starts.virpulens_bench_start.Given as goal

abbrev pub invariant-loop : goal.invariant-loop
invariant-loop l = scene l.last l.arena l.tables l.screens l.permissions ≡ turns l.counter (start_turn l.text l.store) (scene l.initial.last l.initial.arena l.initial.tables l.initial.screens l.initial.permissions)
