-- `replay_text::shown::put_cells` meets its contract. Assumes nothing.
use Rattle.std.proofs.Common.{refl}
use Rattle.lines.specs.Wrote.{most}
use Rattle.replay_text.specs.ShownLaws.{length-shown}
use Rattle.replay_text.proofs.shown.put_cells.Goals as goal

pub returns : goal.returns
unfolding most
returns c = record {
  wrote = record { written = c.show.ensures; place = rw length-shown c.sum-out.ensures; room = c.args.out.now.room };
  same_row = refl;
}
