use Rattle.std.proofs.Common.{◌≤◌, ◌≡◌, ◌-◌}
use Rattle.setup.specs.Reading.{read_from}
use Rattle.setup.specs.Views.{rank_of}
use Rattle.setup.proofs.read.Given as goal

abbrev pub invariant-loop : goal.invariant-loop
invariant-loop l =
    (read_from l.look l.image l.text 41 0 0 l.initial.progress.setup
    ≡ read_from l.look l.image l.text (41 - l.counter) l.progress.next (rank_of l.progress.rank) l.progress.setup)
    × (l.counter ≤ 41)
