-- `octets::parts::place` meets its contract: a write into a part is a write into the whole, of as much as fits in the part. Assumes nothing.
use Rattle.std.proofs.Common.{sym}
use Rattle.octets.specs.PartLaws.{part_def}
use Rattle.octets.specs.WriteLaws.{on_part-write_at, write_at-min}
use Rattle.octets.proofs.parts.place.Goals as goal

pub returns : goal.returns
returns c = let args = c.args in
    rw (
      c.lay.ensures,
      c.piece-fitting.ensures,
      c.sum.ensures,
      c.saturating_sub.ensures,
      part_def,
      write_at-min,
    )
    (sym (on_part-write_at args.at args.n args.offset args.from.now args.to.now))
