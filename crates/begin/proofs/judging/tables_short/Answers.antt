-- `begin::judging::tables_short` meets its contract: the sizes are those of all files. Assumes nothing.
use Rattle.std.proofs.Common.{◌≡◌, ℕ, get_or, rules}
use Rattle.octets.specs.Spans.{no_span}
use Rattle.begin.specs.Each.{firsts}
use Rattle.begin.specs.EachLaws.{firsts_of, sum-firsts}
use Rattle.begin.specs.Planned.{table_start}
use Rattle.begin.proofs.judging.tables_short.Goals as goal

pub returns : goal.returns
unfolding table_start
returns c = let size : ℕ → ℕ = λ q. (get_or c.args.files.now q no_span).length in
    let made = c.map.ensures.items in
    let sizes : c.map.result ≡ firsts size 8 = firsts_of size c.map.result 8 made.long (λ i d k. let one = made.at i no_span d k in search rules) in
    rw (c.exceed.ensures, sizes, sum-firsts size 8)
