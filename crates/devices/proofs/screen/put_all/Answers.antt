use Rattle.std.proofs.Common.{List, ◌≡◌, sym, subst, ◌∙◌, ℕ, ◌+◌, ◌<◌, length, drop, get_or, drop_of_length-le}
use Rattle.devices.specs.Screen.{Screen, screen, put, put_all}
use Rattle.devices.specs.ScreenLaws.{IsScreen, put-screen, put_all-none, put_all-from, on_screen-is}
use Rattle.devices.proofs.screen.put_all.Goals as goal

-- one byte more
step : (bytes cells after : List ℕ) (at next i : ℕ) (all : Screen) → IsScreen (screen cells at) → i < length bytes
    → put_all (drop i bytes) (screen cells at) ≡ all → screen after next ≡ put (get_or bytes i 0) (screen cells at)
    → (put_all (drop (i + 1) bytes) (screen after next) ≡ all) × IsScreen (screen after next)
step bytes cells after at next i all h l p q =
    subst (λ (s : Screen). (put_all (drop (i + 1) bytes) s ≡ all) × IsScreen s) (sym q)
    (sym (put_all-from bytes i (screen cells at) l) ∙ p, put-screen (get_or bytes i 0) (screen cells at) h)

pub loop-byte-preserved : goal.loop-byte-preserved
loop-byte-preserved c = let loop = c.loop-byte in
    let bytes = c.args.bytes.now in
    let one = c.put_one-at in
    let w = step bytes loop.cells one.new.cells loop.at one.result loop.byte-index (put_all bytes (screen c.args.cells.now c.args.cursor))
    (loop.invariant.1, loop.invariant.2) c.loop-byte-test.true loop.invariant.0 one.ensures in
    (w.0, w.1.0, w.1.1)

pub returns : goal.returns
returns c = let loop = c.loop-byte in
    let bytes = c.args.bytes.now in
    let none : put_all (drop loop.byte-index bytes) (screen loop.cells loop.at) ≡ screen loop.cells loop.at =
    rw (drop_of_length-le bytes c.loop-byte-test.false) (put_all-none _) in
    sym none ∙ loop.invariant.0 ∙ sym (on_screen-is _ _ (c.if-cells-ne-CELLS.false, c.if-cursor-ge-CELLS.false))
