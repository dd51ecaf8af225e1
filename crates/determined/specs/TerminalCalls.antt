-- Crate terminal: two results that one contract allows are equal. A theorem for each public function, in the order of the source.
use Rattle.std.specs.Prelude.{List, ◌≡◌, refl, ℕ}
use Rattle.terminal.specs.declared.Answer.{Answer}
use Rattle.terminal.specs.declared.Started.{Started}
use Rattle.terminal.specs.Terminal.{Outcome, outcome}
use Rattle.terminal.specs.AccountCalls.{Written, written}
use Rattle.terminal.specs.Start.{Start, start_of}
use Rattle.determined.specs.Determined.{AtMostOne, by_reading}

-- an answer and the one lent thing that the call may write
pub by_outcome : (z : Outcome) → AtMostOne (λ (x : Answer × List ℕ). outcome x.0 x.1 ≡ z)
by_outcome = by_reading _ (λ (z : Outcome). (z.answer, z.lent)) (λ x. refl)

-- an answer, the store and the table area
pub by_written : (z : Written) → AtMostOne (λ (x : Answer × List ℕ × List ℕ). written x.0 x.1 x.2 ≡ z)
by_written = by_reading _ (λ (z : Written). (z.answer, z.store, z.tables)) (λ x. refl)

-- what start answers, and everything it may write
pub by_start : (z : Start) → AtMostOne (λ (x : Started × List ℕ × List ℕ × List ℕ × List (List ℕ)). start_of x.0 x.1 x.2 x.3 x.4 ≡ z)
by_start = by_reading _ (λ (z : Start). (z.started, z.arena, z.tables, z.screens, z.permissions)) (λ x. refl)
