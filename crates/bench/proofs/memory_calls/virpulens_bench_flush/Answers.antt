use Rattle.std.proofs.Common.{◌≡◌, arith}
use Rattle.bench.specs.Scene.{opened, none}
use Rattle.bench.proofs.Ends.{none_yet, once_more, lent_end}
use Rattle.bench.proofs.memory_calls.virpulens_bench_flush.Goals as goal

pub loop-init : goal.loop-init
loop-init c = none_yet _ _

pub loop-preserved : goal.loop-preserved
loop-preserved c = once_more _ _ _ _ _ c.loop.invariant c.flush-last.ensures

pub returns : goal.returns
returns c = let args = c.args in
    let all : c.loop.counter ≡ args.turns = omega arith in
    lent_end _ (opened args.text.now args.store.now args.arena.now args.tables.now args.screens.now none) _ _ _ _ _ _ _ _ all c.begun-last.ensures c.loop.invariant
