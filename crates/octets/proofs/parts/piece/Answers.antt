-- `octets::parts::piece` meets its contract: a place and a count past the end are as good as the end. Assumes nothing.
use Rattle.std.proofs.Common.{◌≡◌, ◌+◌, ◌-◌, min, length, arith}
use Rattle.octets.specs.LentLaws.{lent-part}
use Rattle.octets.proofs.parts.piece.Goals as goal

pub returns : goal.returns
returns c = let args = c.args in
    let start : c.min-start.result ≡ min args.at (length args.s.now) = c.min-start.ensures in
    let end : c.min-start.result + c.min.result ≡ min (c.min-start.result + args.n) (length args.s.now) = omega (arith, c.min-start.ensures, c.min.ensures) in
    lent-part args.at args.n c.min-start.result (c.min-start.result + c.min.result) args.s.now start end
