-- `lister::lines_of::put_setup` meets its contract: the header, and the lines behind it. Assumes nothing.
use Rattle.lines.specs.Laws.{then_put}
use Rattle.lister.specs.Listing.{setup_lines}
use Rattle.lister.proofs.lines_of.put_setup.Goals as goal

pub returns : goal.returns
unfolding setup_lines
returns c = then_put c.put_header.ensures c.put_partitions.ensures
