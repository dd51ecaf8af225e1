use Rattle.std.proofs.Common.{◌≡◌, arith}
use Rattle.bench.specs.Scene.{opened, none}
use Rattle.bench.proofs.Ends.{none_yet, once_more, screens_end}
use Rattle.bench.proofs.device_calls.virpulens_bench_write_next.Goals as goal

pub loop-init : goal.loop-init
loop-init c = none_yet _ _

pub loop-preserved : goal.loop-preserved
loop-preserved c = once_more _ _ _ _ _ c.loop.invariant c.write_next-last.ensures

pub returns : goal.returns
returns c = let args = c.args in
    let all : c.loop.counter ≡ args.turns = omega arith in
    screens_end _ (opened args.text.now args.store.now args.arena.now args.tables.now args.screens.now none) _ _ _ _ _ _ _ all c.begun-last.ensures c.loop.invariant
