-- What is there before a start, and where nothing is: zeros, false and nobody, so that what means the same is the same.
use Rattle.std.specs.Prelude.{false, replicate}
use Rattle.devices.specs.Queue.{no_keys}
use Rattle.octets.specs.Spans.{no_span}
use Rattle.state.specs.declared.Kept.{Kept}
use Rattle.state.specs.declared.Segment.{Segment}
use Rattle.state.specs.declared.Seat.{Seat}
use Rattle.state.specs.declared.Plan.{Plan}
use Rattle.state.specs.declared.Login.TheVariants.{Nobody}
use Rattle.state.specs.declared.LoginRecord.{LoginRecord}
use Rattle.state.specs.declared.Partition.{Partition}
use Rattle.state.specs.declared.State.{State}

abbrev pub nobody : LoginRecord
nobody = record { user = Nobody }

abbrev pub no_segment : Segment
no_segment = record { memory = no_span; file = no_span; path = no_span }

abbrev pub no_seat : Seat
no_seat = record { active = false; table = no_span; file = no_span }

abbrev pub no_kept : Kept
no_kept = record { store = 0; arena = 0; tables = 0; screens = 0 }

unfoldable pub no_plan : Plan
no_plan = record { count = 0; soft = false; dsegs = 0; msegs = 0; seats = replicate 8 no_seat; segments = replicate 32 no_segment; kept = no_kept }

-- "cursors 0, queues empty, fault flags and marks clear, nobody logged in"
abbrev pub no_partition : Partition
no_partition = record { keyboard = no_keys; cursor = 0; keyfault = false; screenfault = false; login = nobody }

unfoldable pub no_state : State
no_state = record { partitions = replicate 8 no_partition; focus = 0; stopped = false; off = false }
