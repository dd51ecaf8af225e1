-- `octets::parts::lay` meets its contract: what is copied into the part that it fits is what a write from `at` on writes. Assumes nothing.
use Rattle.std.proofs.Common.{List, ◌≡◌, ℕ, ◌+◌, ◌-◌, ◌≤◌, min, arith, length, drop, length-drop, take_all}
use borrow.Rule.Slice.PartMut.{put_mid}
use Rattle.octets.specs.Lists.{part, write_at}
use Rattle.octets.specs.PartLaws.{length_part, part_def}
use Rattle.octets.specs.WriteLaws.{over-split, write_at-fit, write_at-min}
use Rattle.octets.proofs.parts.lay.Goals as goal

-- a copy over a part that is as long as what is copied
copied : (s k : ℕ) (new to : List ℕ) → k ≡ length new → s + length new ≤ length to
    → put_mid s k to new ≡ write_at s new to
unfolding write_at
copied s k new to e h =
    let fits : length new ≤ length (drop s to) = rw length-drop (omega arith) in
    rw (e, over-split, take_all (length (drop s to)) new fits)

laid : (at s : ℕ) (from new to ys : List ℕ) → s ≡ min at (length to) → new ≡ part 0 (length to - s) from
    → ys ≡ new
    → put_mid s (s + length new - s) to ys ≡ write_at at from to
laid at s from new to ys p q r =
    let count : s + length new - s ≡ length new = omega arith in
    let inside : s + length new ≤ length to = rw (p, q, length_part) (omega arith) in
    rw (r, copied s (s + length new - s) new to count inside, q, part_def, write_at-fit, p) (write_at-min at from to)

pub slice_bounds-copy_from_slice-end : goal.slice_bounds-copy_from_slice-end
slice_bounds-copy_from_slice-end c = rw (c.piece-fitting.ensures, c.min-start.ensures, length_part) (omega arith)

pub returns : goal.returns
returns c = let args = c.args in
    let start = c.min-start in
    let piece = c.piece-fitting in
    let copy = c.copy_from_slice in
    laid args.at start.result args.from.now piece.result.now args.to.now copy.new.self
    start.ensures piece.ensures copy.ensures.after
