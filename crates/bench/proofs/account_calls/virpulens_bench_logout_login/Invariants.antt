use Rattle.std.proofs.Common.{◌≡◌, []}
use Rattle.bench.specs.Scene.{scene}
use Rattle.bench.specs.Turns.{turns}
use Rattle.bench.specs.Steps.{login_turn}
use Rattle.bench.proofs.account_calls.virpulens_bench_logout_login.Given as goal

abbrev pub invariant-loop : goal.invariant-loop
invariant-loop l = l.last ≡ turns l.counter (login_turn l.partition l.name l.password (scene l.initial.last l.arena l.tables l.screens [])) l.initial.last
