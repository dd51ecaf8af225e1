-- `console::random::lay` meets its contract: what is lent and comes back is the partition's screen. Assumes nothing.
use Rattle.std.proofs.Common.{List, ◌≡◌, ap, ℕ, ◌+◌, ◌-◌, ◌*◌, min, length}
use borrow.Rule.Slice.PartMut.{mid_of, put_mid}
use Rattle.octets.specs.LentLaws.{lent-part, lent_back}
use Rattle.devices.specs.Screen.{Transfer, transfer, random_write}
use Rattle.console.specs.Console.{cells_of, on_cells, written}
use Rattle.console.proofs.random.lay.Goals as goal

-- bytes over cells of the part that is lent, as `lay` lends it
on-screen : (p offset request : ℕ) (bytes screens after : List ℕ) (a e count : ℕ) → a ≡ min (2000 * p) (length screens) → e ≡ min (a + 2000) (length screens)
    → transfer count after ≡ random_write offset request bytes (mid_of a (e - a) screens)
    → transfer count (put_mid a (e - a) screens after) ≡ written p offset request bytes screens
unfolding written cells_of on_cells
on-screen p offset request bytes screens after a e count start end h =
    let write = random_write offset request bytes (mid_of a (e - a) screens) in
    let moved : count ≡ write.count = ap (λ (t : Transfer). t.count) h in
    let cells : after ≡ write.after = ap (λ (t : Transfer). t.after) h in
    rw (
      moved,
      lent_back (2000 * p) 2000 a e screens start end (λ cells. (random_write offset request bytes cells).after) after cells,
      lent-part (2000 * p) 2000 a e screens start end,
    )

pub returns : goal.returns
returns c = let args = c.args in
    let ends = c.screen_ends-start in
    let write = c.write_at in
    on-screen args.partition args.offset args.request args.bytes.now args.screens.now write.new.cells ends.result.0 ends.result.1 write.result
    ends.ensures.start ends.ensures.end write.ensures
