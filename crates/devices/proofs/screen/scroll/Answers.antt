-- `devices::screen::scroll` meets its contract: with the last row blanked, the raised rows are the scrolled ones. Assumes nothing.
use Rattle.std.proofs.Common.{List, [], ◌++◌, ◌≡◌, ◌∙◌, ℕ, ◌-◌, ◌≤◌, arith, length, take, drop, length-append, length-drop, drop_of_length-le, take_all, take_at}
use borrow.Rule.Slice.PartMut.{mid_of, put_mid, mid_len}
use Rattle.devices.specs.Screen.{blanks, scrolled}
use Rattle.devices.proofs.screen.scroll.Goals as goal

-- the rows raised and the last blanked
scroll_of : (l up last : List ℕ) → length l ≡ 2000 → up ≡ drop 80 l ++ drop 1920 l → last ≡ blanks (length (mid_of 1920 (length up - 1920) up))
    → put_mid 1920 (length up - 1920) up last ≡ scrolled l
unfolding scrolled
scroll_of l up last e p q =
    let size : length (drop 80 l) ≡ 1920 = rw (length-drop, e) in
    let whole : length up ≡ 2000 = rw (p, length-append, size, length-drop, e) in
    let front : take 1920 up ≡ drop 80 l = rw p (take_at (drop 80 l) (drop 1920 l) 1920 size) in
    let mid : length (mid_of 1920 80 up) ≡ 80 = mid_len 1920 2000 up (omega (arith, whole)) in
    let row : last ≡ blanks 80 = q ∙ rw (whole, mid) in
    let few : length (drop 1920 up) ≤ 80 = rw (length-drop, whole) (omega arith) in
    let none : drop 80 (drop 1920 up) ≡ [] = drop_of_length-le (drop 1920 up) few in
    rw (whole, front, row, none)

pub returns : goal.returns
returns c = let cells = c.args.cells.now in
    let size : length (drop 80 cells) ≤ 1920 = rw length-drop (omega arith) in
    scroll_of cells c.copy_within.new.self c.blank.new.cells c.requires (c.copy_within.ensures.after ∙ rw (c.requires, take_all 1920 (drop 80 cells) size)) c.blank.ensures
