-- The same step so many times, each on what the last one left; and what is seen behind it, by what the step writes.
use Rattle.std.specs.Prelude.{List, [], ℕ, zero, suc}
use Rattle.terminal.specs.declared.Terminal.{Terminal}
use Rattle.terminal.specs.declared.Answer.{Answer}
use Rattle.terminal.specs.Terminal.{Outcome, outcome}
use Rattle.terminal.specs.AccountCalls.{Written, written}
use Rattle.bench.specs.Scene.{Scene, Seen, seen}

unfoldable pub turns : {A : Type 0} → ℕ → (A → A) → A → A
turns zero step a = a
turns (suc n) step a = step (turns n step a)

-- ---- a step that writes nothing

unfoldable pub with_answer : Scene → Answer → Seen
with_answer s a = seen a.number s.arena s.tables s.screens []

unfoldable pub answer_after : ℕ → (Scene → Answer → Answer) → Scene → Seen
answer_after n step s = with_answer s (turns n (step s) s.answer)

-- ---- the screens

unfoldable pub with_screens : Scene → Outcome → Seen
with_screens s o = seen o.answer.number s.arena s.tables o.lent []

unfoldable pub screens_after : ℕ → (Scene → Outcome → Outcome) → Scene → Seen
screens_after n step s = with_screens s (turns n (step s) (outcome s.answer s.screens))

-- ---- the arena

unfoldable pub with_arena : Scene → Outcome → Seen
with_arena s o = seen o.answer.number o.lent s.tables s.screens []

unfoldable pub arena_after : ℕ → (Scene → Outcome → Outcome) → Scene → Seen
arena_after n step s = with_arena s (turns n (step s) (outcome s.answer s.arena))

-- ---- a buffer, or the store

unfoldable pub with_lent : Scene → Outcome → Seen
with_lent s o = seen o.answer.number s.arena s.tables s.screens o.lent

unfoldable pub lent_after : ℕ → (Scene → Outcome → Outcome) → List ℕ → Scene → Seen
lent_after n step lent s = with_lent s (turns n (step s) (outcome s.answer lent))

-- ---- the store and the tables

unfoldable pub with_written : Scene → Written → Seen
with_written s w = seen w.answer.number s.arena w.tables s.screens w.store

unfoldable pub written_after : ℕ → (Scene → Written → Written) → List ℕ → Scene → Seen
written_after n step store s = with_written s (turns n (step s) (written s.answer store s.tables))

-- ---- everything that start writes

unfoldable pub scene_after : ℕ → (Scene → Scene) → Scene → Seen
scene_after n step s = with_answer (turns n step s) (turns n step s).answer

-- ---- an event, which answers nothing: one call behind them all shows what they did

unfoldable pub events_after : ℕ → (Terminal → Terminal) → (Terminal → Outcome) → Scene → Seen
events_after n step call s = with_lent s (call (turns n step s.answer.terminal))
