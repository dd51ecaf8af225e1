use Rattle.std.proofs.Common.{refl, sym, ◌∙◌, arith}
use Rattle.image.specs.EntryLaws.{item_entry, item_skipped, spot_stopped, spot_skip, spot_here, spot_on}
use Rattle.image.proofs.find_from.Goals as goal

pub loop-title-init : goal.loop-title-init
loop-title-init c = refl

pub overflow_add-place : goal.overflow_add-place
overflow_add-place c = let image = c.args.image.now in
    let at = c.loop-title.cursor.at in
    let entry = item_entry image at _ _ _ (sym c.read.ensures ∙ c.in-File.is) in
    let inside = entry.inside in
    omega arith

pub returns-then-same : goal.returns-then-same
returns-then-same c = let image = c.args.image.now in
    let at = c.loop-title.cursor.at in
    let entry = item_entry image at _ _ _ (sym c.read.ensures ∙ c.in-File.is) in
    sym (c.loop-title.invariant ∙ spot_here image c.args.path.now at _ _ _ entry (rw c.of.ensures at (sym c.same.ensures ∙ c.if-same.true)))

pub loop-title-smaller-in-File : goal.loop-title-smaller-in-File
loop-title-smaller-in-File c = let image = c.args.image.now in
    let at = c.loop-title.cursor.at in
    let entry = item_entry image at _ _ _ (sym c.read.ensures ∙ c.in-File.is) in
    let inside = entry.inside in
    let later = entry.later in
    omega arith

pub loop-title-preserved-in-File : goal.loop-title-preserved-in-File
loop-title-preserved-in-File c = let image = c.args.image.now in
    let at = c.loop-title.cursor.at in
    let entry = item_entry image at _ _ _ (sym c.read.ensures ∙ c.in-File.is) in
    c.loop-title.invariant ∙ spot_on image c.args.path.now at _ _ _ entry (rw c.of.ensures at (sym c.same.ensures ∙ c.if-same.false))

pub loop-title-smaller : goal.loop-title-smaller
loop-title-smaller c = let image = c.args.image.now in
    let at = c.loop-title.cursor.at in
    let skipped = item_skipped image at _ (sym c.read.ensures ∙ c.in-Other.is) in
    let inside = skipped.inside in
    let later = skipped.later in
    omega arith

pub loop-title-preserved : goal.loop-title-preserved
loop-title-preserved c = let image = c.args.image.now in
    let at = c.loop-title.cursor.at in
    let skipped = item_skipped image at _ (sym c.read.ensures ∙ c.in-Other.is) in
    c.loop-title.invariant ∙ spot_skip image c.args.path.now at _ skipped

pub returns-in-Cut : goal.returns-in-Cut
returns-in-Cut c =
    sym (c.loop-title.invariant ∙ spot_stopped c.args.image.now c.args.path.now c.loop-title.cursor.at (rw c.read.ensures at c.in-Cut.is))
