-- `console::draw` meets its contract: what is lent and comes back is the partition's screen. Assumes nothing.
use Rattle.std.proofs.Common.{List, ◌≡◌, ap, ℕ, ◌+◌, ◌-◌, ◌*◌, min, length}
use borrow.Rule.Slice.PartMut.{mid_of, put_mid}
use Rattle.octets.specs.LentLaws.{lent-part, lent_back}
use Rattle.devices.specs.Screen.{Screen, screen, put_all, on_screen}
use Rattle.state.specs.declared.Partition.{Partition}
use Rattle.state.specs.Parts.{with_cursor}
use Rattle.console.specs.Console.{cells_of, on_cells, drawing, drawn}
use Rattle.console.proofs.draw.Goals as goal

-- bytes on the part that is lent, as `draw` lends it
on-screen : (bytes : List ℕ) (p : ℕ) (x : Partition) (screens after : List ℕ) (a e cursor : ℕ) → a ≡ min (2000 * p) (length screens) → e ≡ min (a + 2000) (length screens)
    → screen after cursor ≡ on_screen (put_all bytes) (screen (mid_of a (e - a) screens) x.cursor)
    → drawing (with_cursor cursor x) (put_mid a (e - a) screens after) ≡ drawn bytes p x screens
unfolding drawn cells_of on_cells
on-screen bytes p x screens after a e cursor start end h =
    let put = on_screen (put_all bytes) (screen (mid_of a (e - a) screens) x.cursor) in
    let place : cursor ≡ put.cursor = ap (λ (s : Screen). s.cursor) h in
    let cells : after ≡ put.cells = ap (λ (s : Screen). s.cells) h in
    rw (
      place,
      lent_back (2000 * p) 2000 a e screens start end (λ cells. (on_screen (put_all bytes) (screen cells x.cursor)).cells) after cells,
      lent-part (2000 * p) 2000 a e screens start end,
    )

pub returns : goal.returns
returns c = let args = c.args in
    let ends = c.screen_ends-start in
    let text = c.put_all-cursor in
    rw c.with_cursor.ensures
    (on-screen args.bytes.now args.partition args.part args.screens.now text.new.cells ends.result.0 ends.result.1 text.result
    ends.ensures.start ends.ensures.end text.ensures)
