use Rattle.std.proofs.Common.{◌≤◌, [], ◌∷◌, length, sym, arith, length-append}
use Rattle.std.proofs.Math.ListN.{get_or-append, get_or-eq_default}
use Rattle.std.proofs.Math.Seq.{get_or-append_seam}
use Rattle.sha256.specs.Marked.{marked}
use Rattle.sha256.proofs.padding.marked_byte.Goals as goal

pub returns-then-at-rest : goal.returns-then-at-rest
unfolding marked
returns-then-at-rest c = sym (get_or-append c.args.rest.now (0x80 ∷ []) 0 c.args.at c.if-at-rest.true)

pub returns-then-at-rest-2 : goal.returns-then-at-rest-2
unfolding marked
returns-then-at-rest-2 c = rw c.if-at-rest-2.true (sym (get_or-append_seam c.args.rest.now 0x80 [] 0))

pub returns-else-at-rest-2 : goal.returns-else-at-rest-2
unfolding marked
returns-else-at-rest-2 c = let h : length (marked c.args.rest.now) ≤ c.args.at = simp length-append (omega arith) in sym (get_or-eq_default (marked c.args.rest.now) 0 h)
