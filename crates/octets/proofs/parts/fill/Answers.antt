-- `octets::parts::fill` meets its contract: what is written over a part that is lent is written at its place. Assumes nothing.
use Rattle.std.proofs.Common.{List, ◌≡◌, sym, ◌∙◌, ℕ, ◌+◌, ◌-◌, ◌≤◌, min, arith, length, replicate, length-take}
use Rattle.std.proofs.lemmas.List.{take-replicate}
use Rattle.std.proofs.Math.ListN.{length-replicate}
use borrow.Rule.Slice.PartMut.{mid_of, put_mid}
use Rattle.octets.specs.LentLaws.{lent_back}
use Rattle.octets.specs.Lists.{over, on_part, write_at}
use Rattle.octets.specs.WriteLaws.{over-long, write_at-on_part}
use Rattle.octets.proofs.parts.fill.Goals as goal

all_written : (at n b s e : ℕ) (old new : List ℕ) → s ≡ min at (length old) → e ≡ min (s + n) (length old)
    → new ≡ replicate (length (mid_of s (e - s) old)) b → put_mid s (e - s) old new ≡ write_at at (replicate n b) old
all_written at n b s e old new start end filled =
    let short : length (mid_of s (e - s) old) ≤ n = rw length-take (omega arith) in
    let long : length (mid_of s (e - s) old) ≤ length (replicate n b) = rw length-replicate short in
    let written : on_part at n (over (replicate n b)) old ≡ write_at at (replicate n b) old =
    rw (write_at-on_part at (replicate n b) old, length-replicate) in
    let over_all = over-long (replicate n b) (mid_of s (e - s) old) long ∙ take-replicate (length (mid_of s (e - s) old)) n b short in
    lent_back at n s e old start end (over (replicate n b)) new (filled ∙ sym over_all)
    ∙ written

pub returns : goal.returns
returns c = let args = c.args in
    all_written args.at args.n args.byte c.min-start.result c.sum-end.result args.to.now c.fill.new.self
    c.min-start.ensures c.sum-end.ensures (c.fill.ensures.after (λ y e. e))
