use Rattle.std.proofs.Common.{◌≡◌, arith}
use Rattle.bench.specs.Scene.{opened, none}
use Rattle.bench.proofs.Ends.{none_yet, once_more, events_end}
use Rattle.bench.proofs.starts.virpulens_bench_key.Goals as goal

pub loop-init : goal.loop-init
loop-init c = none_yet _ _

pub loop-preserved : goal.loop-preserved
loop-preserved c = once_more _ _ _ _ _ c.loop.invariant c.key-last.ensures

pub returns : goal.returns
returns c = let args = c.args in
    let all : c.loop.counter ≡ args.turns = omega arith in
    events_end _ _ (opened args.text.now args.store.now args.arena.now args.tables.now args.screens.now none) _ _ _ _ _ _ _ all c.begun.ensures c.loop.invariant c.read_next.ensures
