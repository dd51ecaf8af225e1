-- `lister::show::write` meets its contract: what is written stands in the output, since the row that was lent is the row that was written. Assumes nothing.
use Rattle.std.proofs.Common.{rules, ◌≡◌, ◌∙◌, ap}
use Rattle.octets.specs.Lists.{over}
use Rattle.lister.specs.Outcomes.{said}
use Rattle.lister.specs.Laws.{laid}
use Rattle.lister.proofs.show.write.Goals as goal

pub returns : goal.returns
returns c =
    let text = said c.args.text.now c.args.outcome.now in
    let rest : c.put_outcome.new.out.row.now ≡ over text c.args.output.now
    = laid c.put_outcome.ensures c.new.ensures.place ∙ ap (over text) c.new.ensures.as_it_is in
    search rules ∙ rest
