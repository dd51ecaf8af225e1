-- `state::State::with_part` meets its contract: behind the eight partitions the definition changes nothing. Assumes nothing.
use Rattle.std.proofs.Common.{length, arith, ◌≡◌, rules}
use Rattle.state.specs.PartsLaws.{part-kept}
use Rattle.state.proofs.State.with_part.Goals as goal

pub returns-else-p-lt-PARTITIONS : goal.returns-else-p-lt-PARTITIONS
returns-else-p-lt-PARTITIONS c = let n : length c.args.self.partitions ≡ 8 = search rules in part-kept _ _ _ (omega arith)
