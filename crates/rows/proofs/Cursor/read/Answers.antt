-- `rows::Cursor::read` meets its contract: at each `return` the tests that led there say which step of the walk it is. Assumes nothing.
use Rattle.std.proofs.Common.{sym, ◌∙◌, ◌≡◌, ◌+◌, add-zero, arith}
use Rattle.octets.specs.Lists.{part}
use Rattle.octets.specs.Numbers.{little}
use Rattle.octets.specs.PartLaws.{part-part}
use Rattle.rows.specs.StepLaws.{step_end, step-short, step_record}
use Rattle.rows.proofs.Cursor.read.Goals as goal

pub returns-then-row-at : goal.returns-then-row-at
returns-then-row-at c = sym (step_end c.args.row.now c.args.self.at c.if-row-at.true)

pub returns-then-left-lt6 : goal.returns-then-left-lt6
returns-then-left-lt6 c = let args = c.args in
    sym (step-short args.row.now args.self.at (omega arith) (omega arith))

pub returns-then-left-length : goal.returns-then-left-length
returns-then-left-length c = let args = c.args in
    let length : c.read32-length.result ≡ little (part args.self.at 4 args.row.now) =
    rw (c.read32-length.ensures, c.piece-header.ensures, part-part 0 4 args.self.at 6 args.row.now (omega arith), add-zero) in
    sym (step-short args.row.now args.self.at (omega arith) (omega (arith, length)))

pub returns : goal.returns
returns c = let args = c.args in
    let length : c.read32-length.result ≡ little (part args.self.at 4 args.row.now) =
    rw (c.read32-length.ensures, c.piece-header.ensures, part-part 0 4 args.self.at 6 args.row.now (omega arith), add-zero) in
    let kind : c.read16-kind.result ≡ little (part (args.self.at + 4) 2 args.row.now) =
    rw (c.read16-kind.ensures, c.piece-header.ensures, part-part 4 2 args.self.at 6 args.row.now (omega arith)) in
    rw kind (sym (step_record args.row.now args.self.at c.read32-length.result length (omega arith)))
