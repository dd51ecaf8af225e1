-- `image::item::item_at` meets its contract: the step that was read, and the test of its numbers, say which item the walk meets. Assumes nothing.
use Rattle.std.proofs.Common.{sym, ◌∙◌, arith}
use Rattle.rows.specs.StepLaws.{step-passed}
use Rattle.image.specs.ItemLaws.{item_file, item_other, item_cut, item_end, item_room}
use Rattle.image.proofs.item.item_at.Goals as goal

pub overflow_add-place : goal.overflow_add-place
overflow_add-place c = let args = c.args in
    let got = step-passed args.image.now args.at _ _ _ (sym c.read.ensures ∙ c.in-Record.is) in
    let room = item_room args.image.now args.at _ _ _ got c.first-length.result (sym c.good_numbers.ensures ∙ c.if-not-good_numbers.false) in
    omega arith

pub overflow_add-result : goal.overflow_add-result
overflow_add-result c = let args = c.args in
    let got = step-passed args.image.now args.at _ _ _ (sym c.read.ensures ∙ c.in-Record.is) in
    let room = item_room args.image.now args.at _ _ _ got c.first-length.result (sym c.good_numbers.ensures ∙ c.if-not-good_numbers.false) in
    omega arith

pub overflow_sub-result : goal.overflow_sub-result
overflow_sub-result c = let args = c.args in
    let got = step-passed args.image.now args.at _ _ _ (sym c.read.ensures ∙ c.in-Record.is) in
    let room = item_room args.image.now args.at _ _ _ got c.first-length.result (sym c.good_numbers.ensures ∙ c.if-not-good_numbers.false) in
    omega arith

pub returns-else-not-good_numbers : goal.returns-else-not-good_numbers
returns-else-not-good_numbers c = let args = c.args in
    let got = step-passed args.image.now args.at _ _ _ (sym c.read.ensures ∙ c.in-Record.is) in
    item_file args.image.now args.at _ _ _ got c.first-length.result c.first-length.ensures (sym c.good_numbers.ensures ∙ c.if-not-good_numbers.false)

pub returns-in-End : goal.returns-in-End
returns-in-End c = item_end c.args.image.now c.args.at (sym c.read.ensures ∙ c.in-End.is)

pub returns-in-Cut : goal.returns-in-Cut
returns-in-Cut c = item_cut c.args.image.now c.args.at (sym c.read.ensures ∙ c.in-Cut.is)

pub returns-then-not-good_numbers : goal.returns-then-not-good_numbers
returns-then-not-good_numbers c = let args = c.args in
    let got = step-passed args.image.now args.at _ _ _ (sym c.read.ensures ∙ c.in-Record.is) in
    item_other args.image.now args.at _ _ _ got c.first-length.result c.first-length.ensures (sym c.good_numbers.ensures ∙ c.if-not-good_numbers.true)
