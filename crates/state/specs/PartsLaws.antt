-- Where there is none of a number, the empty one is read and nothing is changed; inside a row the default that a reader gives does not matter.
use Rattle.std.specs.Prelude.{◌≡◌, ℕ, ◌≤◌, ◌<◌, length, get_or}
use Rattle.std.proofs.Common.{sym}
use Rattle.std.proofs.Math.ListN.{get_or-eq_default}
use Rattle.std.proofs.Math.Seq.{set_out}
use Rattle.setup.specs.Values.{get_or_any}
use Rattle.state.specs.declared.Plan.{Plan}
use Rattle.state.specs.declared.Partition.{Partition}
use Rattle.state.specs.declared.State.{State}
use Rattle.state.specs.Empty.{no_segment, no_seat, no_partition}
use Rattle.state.specs.Parts.{segment_at, seat_at, part_at, with_part}

pub segment_out : (plan : Plan) (i : ℕ) → length plan.segments ≤ i → no_segment ≡ segment_at plan i
unfolding segment_at
segment_out plan i h = sym (get_or-eq_default plan.segments no_segment h)

pub seat_out : (plan : Plan) (p : ℕ) → length plan.seats ≤ p → no_seat ≡ seat_at plan p
unfolding seat_at
seat_out plan p h = sym (get_or-eq_default plan.seats no_seat h)

pub part_out : (s : State) (p : ℕ) → length s.partitions ≤ p → no_partition ≡ part_at s p
unfolding part_at
part_out s p h = sym (get_or-eq_default s.partitions no_partition h)

pub part_in : (s : State) (p : ℕ) (d : Partition) → p < length s.partitions → get_or s.partitions p d ≡ part_at s p
unfolding part_at
part_in s p d h = get_or_any s.partitions p d no_partition h

pub part-kept : (s : State) (p : ℕ) (x : Partition) → length s.partitions ≤ p → s ≡ with_part p x s
unfolding with_part
part-kept s p x h = rw (set_out s.partitions p x h)
