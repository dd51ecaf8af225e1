use Rattle.std.proofs.Common.{length, arith, ◌≡◌, rules}
use Rattle.setup.specs.Values.{blank}
use Rattle.setup.specs.Values.{row-dseg, row-mseg, row-behind}
use Rattle.setup.proofs.Setup.row.Goals as goal

pub returns-then-i-lt16 : goal.returns-then-i-lt16
returns-then-i-lt16 c = let d : length c.args.self.now.dsegs ≡ 16 = search rules in let m : length c.args.self.now.msegs ≡ 16 = search rules in row-dseg c.args.self.now d m c.args.i blank (omega arith)

pub returns-then-i-lt32 : goal.returns-then-i-lt32
returns-then-i-lt32 c = let d : length c.args.self.now.dsegs ≡ 16 = search rules in let m : length c.args.self.now.msegs ≡ 16 = search rules in row-mseg c.args.self.now d m c.args.i blank (omega arith) (omega arith)

pub returns : goal.returns
returns c = let d : length c.args.self.now.dsegs ≡ 16 = search rules in let m : length c.args.self.now.msegs ≡ 16 = search rules in row-behind c.args.self.now d m c.args.i (omega arith)
