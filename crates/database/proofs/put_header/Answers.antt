-- `database::put_header` meets its contract: six numbers, one behind the other. Assumes nothing.
use Rattle.database.specs.LaidLaws.{header_made}
use Rattle.database.proofs.put_header.Goals as goal

pub returns : goal.returns
returns c = rw (c.put_numbers.ensures, header_made)
