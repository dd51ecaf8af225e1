-- `database::put_database` meets its contract: zeros, the entries behind the header's place, and the header. Assumes nothing.
use Rattle.database.specs.LaidLaws.{whole}
use Rattle.database.proofs.put_database.Goals as goal

pub returns : goal.returns
returns c = let args = c.args in
    let clear = c.clear in
    let rows = c.put_entries-count in
    let header = c.put_header in
    whole args.plan.now args.permissions.now args.store.now args.partition
    rows.result args.buffer.now clear.new.buffer rows.new.buffer header.new.buffer
    clear.ensures rows.ensures header.ensures
