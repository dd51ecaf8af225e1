use Rattle.std.proofs.Common.{◌≡◌, []}
use Rattle.terminal.specs.AccountCalls.{written}
use Rattle.bench.specs.Scene.{scene}
use Rattle.bench.specs.Turns.{turns}
use Rattle.bench.specs.Steps.{set_password_turn}
use Rattle.bench.proofs.account_calls.virpulens_bench_set_password.Given as goal

abbrev pub invariant-loop : goal.invariant-loop
invariant-loop l = written l.last l.store l.tables ≡ turns l.counter (set_password_turn l.partition l.changed l.taken (scene l.initial.last l.arena l.initial.tables l.screens [])) (written l.initial.last l.initial.store l.initial.tables)
