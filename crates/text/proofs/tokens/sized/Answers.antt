-- `text::tokens::sized` meets its contract: a unit that is there lies inside the text. Assumes nothing.
use Rattle.std.proofs.Common.{arith, [], ◌∷◌}
use Rattle.text.specs.RunLaws.{same-fits, told}
use Rattle.text.proofs.tokens.sized.Goals as goal

pub overflow_add-result : goal.overflow_add-result
overflow_add-result c = let args = c.args in
    let unit = told _ _ _ c.piece-unit.ensures c.same.ensures c.if-same.true in
    omega (arith, same-fits (75 ∷ 66 ∷ []) args.text.now args.p unit)

pub overflow_add-result-then-same-2 : goal.overflow_add-result-then-same-2
overflow_add-result-then-same-2 c = let args = c.args in
    let unit = told _ _ _ c.piece-unit.ensures c.same-2.ensures c.if-same-2.true in
    omega (arith, same-fits (77 ∷ 66 ∷ []) args.text.now args.p unit)

pub overflow_add-result-then-same-3 : goal.overflow_add-result-then-same-3
overflow_add-result-then-same-3 c = let args = c.args in
    let unit = told _ _ _ c.piece-unit.ensures c.same-3.ensures c.if-same-3.true in
    omega (arith, same-fits (71 ∷ 66 ∷ []) args.text.now args.p unit)
