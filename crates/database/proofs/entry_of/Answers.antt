-- `database::entry_of` meets its contract, by what its callees ensure; a size counts modulo 2^32. Assumes nothing.
use Rattle.octets.specs.Spans.{bytes_of}
use Rattle.database.specs.Row.{entry_in}
use Rattle.database.specs.LaidLaws.{size-cut}
use Rattle.database.proofs.entry_of.Goals as goal

pub returns : goal.returns
unfolding entry_in bytes_of
returns c = rw (
  c.entry.ensures,
  c.of.ensures,
  c.selector_of.ensures,
  c.kind_of.ensures,
  size-cut,
)
