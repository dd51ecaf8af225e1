-- The four calls on the caller's keyboard and screen.
use Rattle.std.specs.Prelude.{false, List, ℕ}
use Rattle.console.specs.Console.{Outcome as ConsoleOutcome, read_next as keysRead, read_random as cellsRead, write_next as bytesShown, write_random as cellsWritten}
use Rattle.terminal.specs.declared.Terminal.{Terminal}
use Rattle.terminal.specs.Terminal.{Outcome, answer, outcome, with_partition, partition_of, guard_of, differs}

-- what became of the calling partition becomes of the terminal
unfoldable pub replied : Terminal → ℕ → ConsoleOutcome → Outcome
replied t p o = outcome (answer o.reply.number o.reply.count (with_partition p o.reply.part t)) o.lent

unfoldable pub read_next : Terminal → ℕ → ℕ → ℕ → ℕ → List ℕ → Outcome
read_next t p major minor request buffer = replied t p (keysRead (guard_of t false p) (partition_of t p) p major minor request buffer)

unfoldable pub read_random : Terminal → ℕ → ℕ → ℕ → ℕ → ℕ → List ℕ → List ℕ → Outcome
read_random t p major minor offset request screens buffer =
    replied t p (cellsRead (guard_of t (differs screens t.plan.kept.screens) p) (partition_of t p) p major minor offset request screens buffer)

unfoldable pub write_next : Terminal → ℕ → ℕ → ℕ → ℕ → List ℕ → List ℕ → Outcome
write_next t p major minor request bytes screens =
    replied t p (bytesShown (guard_of t (differs screens t.plan.kept.screens) p) (partition_of t p) p major minor request bytes screens)

unfoldable pub write_random : Terminal → ℕ → ℕ → ℕ → ℕ → ℕ → List ℕ → List ℕ → Outcome
write_random t p major minor offset request bytes screens =
    replied t p (cellsWritten (guard_of t (differs screens t.plan.kept.screens) p) (partition_of t p) p major minor offset request bytes screens)
