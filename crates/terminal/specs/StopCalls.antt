-- Shutdown and Powerdown.
use Rattle.std.specs.Prelude.{true, cond, List, [], ℕ}
use Rattle.checks.specs.Settle.{settle}
use Rattle.state.specs.Parts.{with_part, with_stop}
use Rattle.console.specs.Console.{Drawn}
use Rattle.console.specs.Halt.{halt}
use Rattle.terminal.specs.declared.Terminal.{Terminal}
use Rattle.terminal.specs.Terminal.{Outcome, answer, outcome, with_state, partition_of, guard_of, differs}

-- "The terminal is stopped and the answer is 0": the off mark stays as it was
unfoldable pub stopped : Terminal → ℕ → Drawn → Outcome
stopped t p d = outcome (answer 0 0 (with_state (with_stop t.state.off (with_part p d.part t.state)) t)) d.screens

unfoldable pub shutdown : Terminal → ℕ → List ℕ → List ℕ → Outcome
shutdown t p message screens =
    let n = guard_of t (differs screens t.plan.kept.screens) p in
    settle n (stopped t p (halt message p (partition_of t p) screens)) (outcome (answer n 0 t) screens)

-- "with soft power, stopped and off, screens untouched"
unfoldable pub switched_off : Terminal → ℕ → List ℕ → Outcome
switched_off t p screens =
    let n = guard_of t (differs screens t.plan.kept.screens) p in
    settle n (outcome (answer 0 0 (with_state (with_stop true t.state) t)) screens) (outcome (answer n 0 t) screens)

-- "without, as shutdown with no message"
unfoldable pub powerdown : Terminal → ℕ → List ℕ → Outcome
powerdown t p screens = cond t.plan.soft (switched_off t p screens) (shutdown t p [] screens)
