use Rattle.std.proofs.Common.{sym, ◌∙◌, arith}
use Rattle.image.specs.Image.{good}
use Rattle.image.specs.EntryLaws.{item_entry, good_end, good_stopped, good_again, good-on}
use Rattle.image.proofs.good.Goals as goal

pub loop-title-init : goal.loop-title-init
unfolding good
loop-title-init c = rw c.new-cursor.ensures

pub returns-then-again : goal.returns-then-again
returns-then-again c = let image = c.args.image.now in
    let at = c.loop-title.cursor.at in
    let entry = item_entry image at _ _ _ (sym c.read.ensures ∙ c.in-File.is) in
    sym (c.loop-title.invariant ∙ good_again image at _ _ _ entry (sym c.again.ensures ∙ c.if-again.true))

pub loop-title-smaller : goal.loop-title-smaller
loop-title-smaller c = let image = c.args.image.now in
    let at = c.loop-title.cursor.at in
    let entry = item_entry image at _ _ _ (sym c.read.ensures ∙ c.in-File.is) in
    let inside = entry.inside in
    let later = entry.later in
    omega arith

pub loop-title-preserved : goal.loop-title-preserved
loop-title-preserved c = let image = c.args.image.now in
    let at = c.loop-title.cursor.at in
    let entry = item_entry image at _ _ _ (sym c.read.ensures ∙ c.in-File.is) in
    c.loop-title.invariant ∙ good-on image at _ _ _ entry (sym c.again.ensures ∙ c.if-again.false)

pub returns-in-Other : goal.returns-in-Other
returns-in-Other c =
    sym (c.loop-title.invariant ∙ good_stopped c.args.image.now c.loop-title.cursor.at (rw c.read.ensures at c.in-Other.is))

pub returns-in-End : goal.returns-in-End
returns-in-End c = sym (c.loop-title.invariant ∙ good_end c.args.image.now c.loop-title.cursor.at (sym c.read.ensures ∙ c.in-End.is))
