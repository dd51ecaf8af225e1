use Rattle.std.proofs.Common.{ℕ, List, ap, arith}
use Rattle.sha256.specs.Compression.{compress, sums}
use Rattle.sha256.proofs.Quarters.{by_quarters}
use Rattle.sha256.proofs.compress.Goals as goal

pub returns : goal.returns
unfolding compress
returns c = rw (c.sums.ensures, c.fourth_quarter-done.ensures, c.third_quarter-third.ensures, c.second_quarter-second.ensures, c.first_quarter-first.ensures) (ap (λ (v : List ℕ). sums v c.args.state) (by_quarters c.args.state c.args.block (omega arith)))
