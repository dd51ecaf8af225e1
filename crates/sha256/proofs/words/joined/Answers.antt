use Rattle.sha256.proofs.Joined.{written_out}
use Rattle.sha256.proofs.words.joined.Goals as goal

pub returns : goal.returns
returns c = written_out c.args.v c.bytes_of-a.result c.bytes_of-b.result c.bytes_of-c.result c.bytes_of-d.result c.bytes_of-e.result c.bytes_of-f.result c.bytes_of-g.result c.bytes_of-h.result c.bytes_of-a.ensures c.bytes_of-b.ensures c.bytes_of-c.ensures c.bytes_of-d.ensures c.bytes_of-e.ensures c.bytes_of-f.ensures c.bytes_of-g.ensures c.bytes_of-h.ensures
