-- The events, ignored once stopped or in a bad state.
use Rattle.std.specs.Prelude.{Bool, not, cond, ◌&&◌, ℕ, zero, suc, ◌+◌, ltb}
use Rattle.devices.specs.Queue.{queue_add}
use Rattle.state.specs.declared.Plan.{Plan}
use Rattle.state.specs.declared.Partition.{Partition}
use Rattle.state.specs.declared.State.{State}
use Rattle.state.specs.Parts.{is_active, part_at, with_part, with_focus, with_keyboard, with_fault}
use Rattle.guard.specs.Test.{good}

-- neither stopped nor in a bad state
unfoldable pub running : Plan → State → Bool
running plan s = good plan s && not s.stopped

-- "The keyboard queue takes a key in at the back, or drops it when 64 are held", whatever the fault flags say
unfoldable pub typed : ℕ → Partition → Partition
typed byte x = with_keyboard (queue_add byte x.keyboard) x

-- "a key goes to the focused partition"
unfoldable pub key : ℕ → Plan → State → State
key byte plan s = cond (running plan s) (with_part s.focus (typed byte (part_at s s.focus)) s) s

-- the partition behind p, round
unfoldable pub behind : Plan → ℕ → ℕ
behind plan p = cond (ltb (p + 1) plan.count) (p + 1) 0

-- the first active partition of p and those behind it, where n are looked at
unfoldable pub seek : ℕ → Plan → ℕ → ℕ
seek zero plan p = p
seek (suc n) plan p = cond (is_active plan p) p (seek n plan (behind plan p))

-- "The attention key moves focus to the next active partition, round": eight are looked at, so that a lone one keeps it
unfoldable pub attention : Plan → State → State
attention plan s = cond (running plan s) (with_focus (seek 8 plan (behind plan s.focus)) s) s

-- "A fault flag is set or cleared; for a passive or unknown partition nothing happens", nor for a device that there is not
unfoldable pub fault : ℕ → ℕ → Bool → Plan → State → State
fault p device flag plan s = cond (running plan s && is_active plan p) (with_part p (with_fault device flag (part_at s p)) s) s
