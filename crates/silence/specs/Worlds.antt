-- A call that answers behind the mask as it would have without it leaves the masked world that it would have left.
use Rattle.std.specs.Prelude.{Bool, ℕ}
use Rattle.terminal.specs.declared.Answer.{Answer}
use Rattle.terminal.specs.Terminal.{Outcome, outcome, answer}
use Rattle.silence.specs.Mask.{mask_terminal}

-- an answer and an outcome behind the mask
unfoldable pub mask_answer : Bool → ℕ → Answer → Answer
mask_answer kept q a = answer a.number a.count (mask_terminal kept q a.terminal)

unfoldable pub mask_outcome : Bool → ℕ → Outcome → Outcome
mask_outcome kept q o = outcome (mask_answer kept q o.answer) o.lent
