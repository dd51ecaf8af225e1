-- `passwords::walk::Records::next` meets its contract: each step of the row is one reading. Assumes nothing.
use Rattle.std.proofs.Common.{refl, sym, ◌∙◌, arith}
use Rattle.passwords.specs.WalkLaws.{reading-passed, reading-stopped, reading-ended}
use Rattle.passwords.specs.Walk.{place_behind, count_behind}
use Rattle.passwords.proofs.walk.Records.next.Goals as goal
use Rattle.passwords.proofs.walk.Records.next.Goals.{in-Record, in-Cut}

pub returns-in-End-clause-found : goal.returns-in-End-clause-found
returns-in-End-clause-found c = let r = c.args.self.now in
    sym (reading-ended r.file.now r.at r.count (sym c.read.ensures ∙ c.in-End.is))

pub returns-in-End-clause-at : goal.returns-in-End-clause-at
unfolding place_behind
returns-in-End-clause-at c = refl

pub returns-in-End-clause-count : goal.returns-in-End-clause-count
unfolding count_behind
returns-in-End-clause-count c = refl

pub overflow_sub-reading : goal.overflow_sub-reading
overflow_sub-reading c = let r = c.args.self.now in
    elim c.match-read.branch [
      | in-Record w ↦ (let e = reading-passed r.file.now r.at r.count _ _ _ (sym c.read.ensures ∙ w.in-Record.is) in let end = w.end-is in omega arith)
      | in-Cut w ↦ (let e = reading-stopped r.file.now r.at r.count (sym c.read.ensures ∙ w.in-Cut.is) in let end = w.end-is in omega arith)
    ]

pub returns-clause-found : goal.returns-clause-found
returns-clause-found c = let r = c.args.self.now in
    elim c.match-read.branch [
      | in-Record w ↦ (let e = reading-passed r.file.now r.at r.count _ _ _ (sym c.read.ensures ∙ w.in-Record.is) in rw w.end-is (sym e.0))
      | in-Cut w ↦ (let e = reading-stopped r.file.now r.at r.count (sym c.read.ensures ∙ w.in-Cut.is) in rw w.end-is (sym e.0))
    ]

pub returns-clause-at : goal.returns-clause-at
unfolding place_behind
returns-clause-at c = let r = c.args.self.now in
    elim c.match-read.branch [
      | in-Record w ↦ (let e = reading-passed r.file.now r.at r.count _ _ _ (sym c.read.ensures ∙ w.in-Record.is) in let end = w.end-is in omega arith)
      | in-Cut w ↦ (let e = reading-stopped r.file.now r.at r.count (sym c.read.ensures ∙ w.in-Cut.is) in let end = w.end-is in omega arith)
    ]

pub returns-clause-count : goal.returns-clause-count
unfolding count_behind
returns-clause-count c = refl
