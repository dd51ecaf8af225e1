-- `memory::load` meets its contract: what is laid is the piece that the definition reads. Assumes nothing.
use Rattle.std.proofs.Common.{eq-eqb, ne_eqb}
use Rattle.octets.specs.Spans.{bytes_of as Spans·bytes_of}
use Rattle.octets.specs.WriteLaws.{write_at-zero}
use Rattle.checks.specs.Laws.{behind_after}
use Rattle.checks.specs.Settle.{settle}
use Rattle.memory.specs.Memory.{load, bytes_of}
use Rattle.memory.proofs.load.Goals as goal

pub returns-then-fault-ne0 : goal.returns-then-fault-ne0
unfolding load settle
returns-then-fault-ne0 c = rw (← behind_after _ _ _ c.load_check.ensures, ← c.number_behind-fault.ensures, ne_eqb _ _ c.if-fault-ne0.true)

pub returns : goal.returns
unfolding load settle bytes_of Spans·bytes_of
returns c = rw (
  ← behind_after _ _ _ c.load_check.ensures,
  ← c.number_behind-fault.ensures,
  eq-eqb _ _ c.if-fault-ne0.false,
  c.lay.ensures,
  c.piece.ensures,
  c.of-bytes.ensures,
  write_at-zero,
)
