-- What is read from a plan and a state by number, and what a call or an event changes of a state: one definition for each thing that moves.
use Rattle.std.specs.Prelude.{Bool, true, cond, ◌&&◌, ℕ, eqb, ltb, get_or, set}
use Rattle.devices.specs.declared.keyboard.Keyboard.{Keyboard}
use Rattle.state.specs.declared.Segment.{Segment}
use Rattle.state.specs.declared.Seat.{Seat}
use Rattle.state.specs.declared.Plan.{Plan}
use Rattle.state.specs.declared.LoginRecord.{LoginRecord}
use Rattle.state.specs.declared.Partition.{Partition}
use Rattle.state.specs.declared.State.{State}
use Rattle.state.specs.Empty.{no_segment, no_seat, no_partition}

-- ---- the plan

unfoldable pub segment_at : Plan → ℕ → Segment
segment_at plan i = get_or plan.segments i no_segment

unfoldable pub seat_at : Plan → ℕ → Seat
seat_at plan p = get_or plan.seats p no_seat

-- partition p is an active one
unfoldable pub is_active : Plan → ℕ → Bool
is_active plan p = ltb p plan.count && (seat_at plan p).active

-- ---- one partition

unfoldable pub with_keyboard : Keyboard → Partition → Partition
with_keyboard k x = record { keyboard = k; cursor = x.cursor; keyfault = x.keyfault; screenfault = x.screenfault; login = x.login }

unfoldable pub with_cursor : ℕ → Partition → Partition
with_cursor c x = record { keyboard = x.keyboard; cursor = c; keyfault = x.keyfault; screenfault = x.screenfault; login = x.login }

unfoldable pub with_login : LoginRecord → Partition → Partition
with_login r x = record { keyboard = x.keyboard; cursor = x.cursor; keyfault = x.keyfault; screenfault = x.screenfault; login = r }

-- "Keyboard major 1, screen major 2": the fault flag of a device; another device has none
unfoldable pub faulty : ℕ → Partition → Bool
faulty device x = cond (eqb device 1) x.keyfault (eqb device 2 && x.screenfault)

-- "A fault flag is set or cleared"
unfoldable pub with_fault : ℕ → Bool → Partition → Partition
with_fault device flag x =
    record {
      keyboard = x.keyboard;
      cursor = x.cursor;
      keyfault = cond (eqb device 1) flag x.keyfault;
      screenfault = cond (eqb device 2) flag x.screenfault;
      login = x.login;
    }

-- ---- the state

unfoldable pub part_at : State → ℕ → Partition
part_at s p = get_or s.partitions p no_partition

unfoldable pub with_part : ℕ → Partition → State → State
with_part p x s = record { partitions = set s.partitions p x; focus = s.focus; stopped = s.stopped; off = s.off }

unfoldable pub with_focus : ℕ → State → State
with_focus p s = record { partitions = s.partitions; focus = p; stopped = s.stopped; off = s.off }

-- stopped, and off where `off` says so
unfoldable pub with_stop : Bool → State → State
with_stop off s = record { partitions = s.partitions; focus = s.focus; stopped = true; off = off }
