-- `lister::listing` meets its contract: the first line is what stands before the first line feed, and the text what stands behind it. Assumes nothing.
use Rattle.std.proofs.Common.{◌∙◌}
use Rattle.lister.specs.Listing.{listed}
use Rattle.lister.specs.Laws.{shown_as, no_feed, fed}
use Rattle.lister.proofs.listing.Goals as goal

pub returns-then-n-input : goal.returns-then-n-input
unfolding listed
returns-then-n-input c = shown_as c.args.output.now (no_feed c.args.input.now c.find-n.result c.find-n.ensures.place c.if-n-input.true) c.outcome.ensures

pub returns : goal.returns
unfolding listed
returns c =
    shown_as c.args.output.now
    (c.read.ensures ∙ fed c.args.input.now _ _ c.find-n.result c.find-n.ensures.place c.find-n.ensures.within c.if-n-input.false c.piece-letters.ensures c.piece-text.ensures)
    c.outcome-2.ensures
