-- `passwords::set_digest` meets its contract: a change of the part where record i stands is a change of record i. Assumes nothing.
use Rattle.passwords.specs.WalkLaws.{span_fits, span_change}
use Rattle.passwords.specs.PasswordFile.{with_digest}
use Rattle.std.proofs.Common.{length, drop-drop, arith, ℕ, ◌+◌, ◌-◌, ◌≤◌, List, ◌≡◌}
use borrow.Rule.Slice.PartMut.{mid_of, put_mid}
use Rattle.octets.specs.Lists.{part, on_part}
use Rattle.octets.specs.declared.span.Span.{Span}
use Rattle.passwords.specs.Account.{changed}
use Rattle.passwords.specs.AccountLaws.{length-changed}
use Rattle.passwords.specs.Walk.{span_of}
use Rattle.passwords.proofs.set_digest.Goals as goal

-- a change of the lent part is a change of that part of the whole
part-changed : (at n : ℕ) (new file : List ℕ) → put_mid at n file (changed new (mid_of at n file)) ≡ on_part at n (changed new) file
unfolding on_part part
part-changed at n new file = rw (drop-drop n at file)

placed : (i : ℕ) (r : Span) (new file ys : List ℕ) → r ≡ span_of i file → ys ≡ changed new (mid_of r.place (r.place + r.length - r.place) file)
    → put_mid r.place (r.place + r.length - r.place) file ys ≡ with_digest i new file
unfolding with_digest
placed i r new file ys p q =
    let count : r.place + r.length - r.place ≡ r.length = omega arith in
    rw (q, count, part-changed r.place r.length new file, p) (span_change (changed new) (length-changed new) i file)

pub overflow_add-end : goal.overflow_add-end
overflow_add-end c = let h : c.locate-span.result.place + c.locate-span.result.length ≤ length c.args.file.now = rw c.locate-span.ensures (span_fits c.args.i c.args.file.now) in record { fits = omega arith }

pub slice_bounds-change-end : goal.slice_bounds-change-end
slice_bounds-change-end c = let h : c.locate-span.result.place + c.locate-span.result.length ≤ length c.args.file.now = rw c.locate-span.ensures (span_fits c.args.i c.args.file.now) in omega arith

pub returns : goal.returns
returns c = let args = c.args in
    placed args.i c.locate-span.result args.new.now args.file.now c.change.new.entry c.locate-span.ensures c.change.ensures
