-- `memory::flush` meets its contract: what is placed are the first bytes that the store takes. Assumes nothing.
use Rattle.std.proofs.Common.{eq-eqb, ne_eqb, lt-ltb, le-ltb, List, ◌≡◌, ℕ, take}
use Rattle.octets.specs.Lists.{part, over, write_at, on_part}
use Rattle.octets.specs.OnPartLaws.{on_part-same}
use Rattle.octets.specs.PartLaws.{part_def}
use Rattle.octets.specs.Spans.{bytes_of as Spans·bytes_of}
use Rattle.octets.specs.WriteLaws.{write_at-zero}
use Rattle.checks.specs.Laws.{behind_after}
use Rattle.checks.specs.Settle.{settle}
use Rattle.memory.specs.Memory.{flush, bytes_of}
use Rattle.memory.proofs.flush.Goals as goal

first-bytes : (at n k : ℕ) (row l : List ℕ) → on_part at n (write_at 0 (part 0 k row)) l ≡ on_part at n (over (take k row)) l
first-bytes at n k row l =
    on_part-same at n (write_at 0 (part 0 k row)) (over (take k row)) l (rw (write_at-zero, part_def 0 k row))

pub returns-then-fault-ne0 : goal.returns-then-fault-ne0
unfolding flush settle
returns-then-fault-ne0 c = rw (← behind_after _ _ _ c.flush_check.ensures, ← c.number_behind-fault.ensures, ne_eqb _ _ c.if-fault-ne0.true)

pub returns-then-count-memory : goal.returns-then-count-memory
unfolding flush settle bytes_of Spans·bytes_of
returns-then-count-memory c = rw (
  ← behind_after _ _ _ c.flush_check.ensures,
  ← c.number_behind-fault.ensures,
  eq-eqb _ _ c.if-fault-ne0.false,
  c.number.ensures,
  c.place.ensures,
  c.piece.ensures,
  c.of.ensures,
  first-bytes,
  lt-ltb _ _ c.if-count-memory.true,
)

pub returns : goal.returns
unfolding flush settle bytes_of Spans·bytes_of
returns c = rw (
  ← behind_after _ _ _ c.flush_check.ensures,
  ← c.number_behind-fault.ensures,
  eq-eqb _ _ c.if-fault-ne0.false,
  c.place.ensures,
  c.piece.ensures,
  c.of.ensures,
  first-bytes,
  le-ltb _ _ c.if-count-memory.false,
)
