-- `console::halt::halt` meets its contract: two runs, one after the other, are one run. Assumes nothing.
use Rattle.std.proofs.Common.{false, List, ◌≡◌, sym, ℕ}
use Rattle.state.specs.declared.Partition.{Partition}
use Rattle.console.specs.Console.{drawing, drawn}
use Rattle.console.specs.ConsoleLaws.{drawn-append, halt-faulty, halt-shown}
use Rattle.console.specs.Halt.{shown_message, notice, halt}
use Rattle.console.proofs.halt.halt.Goals as goal

-- the message, then the notice
both : (message a : List ℕ) (p : ℕ) (x y z : Partition) (screens first second : List ℕ) → x.screenfault ≡ false → a ≡ shown_message message
    → drawing y first ≡ drawn a p x screens → drawing z second ≡ drawn notice p y first → drawing z second ≡ halt message p x screens
both message a p x y z screens first second works shown e f =
    rw (halt-shown message p x screens works, ← shown, drawn-append a notice p x screens, ← e) f

pub returns-then-faulty : goal.returns-then-faulty
returns-then-faulty c = let args = c.args in
    sym (halt-faulty args.message.now args.partition args.part args.screens.now c.if-faulty.true)

pub returns : goal.returns
unfolding notice
returns c = let args = c.args in
    let shown = c.shown in
    let told = c.draw-told in
    let halted = c.draw in
    both args.message.now shown.result.now args.partition args.part told.result halted.result
    args.screens.now told.new.screens halted.new.screens
    c.if-faulty.false shown.ensures told.ensures halted.ensures
