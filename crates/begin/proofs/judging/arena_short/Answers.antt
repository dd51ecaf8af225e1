-- `begin::judging::arena_short` meets its contract: the sizes are those of all rows. Assumes nothing.
use Rattle.std.proofs.Common.{◌≡◌, ◌∙◌, ap, sum, rules, arith}
use Rattle.begin.specs.Each.{firsts}
use Rattle.begin.specs.EachLaws.{sum-firsts}
use Rattle.begin.specs.Planned.{size_of, start_of}
use Rattle.begin.proofs.Made.{made}
use Rattle.begin.proofs.judging.arena_short.Goals as goal

pub returns : goal.returns
unfolding start_of
returns c = let size = size_of c.args.setup.now c.args.files.now in
    let sizes : c.from_fn-sizes.result ≡ firsts size 32 = made _ _ size _ (λ i r q k. search rules) 32 c.from_fn-sizes.ensures.items in
    let all : sum c.from_fn-sizes.result ≡ start_of c.args.setup.now c.args.files.now 32 = ap sum sizes ∙ sum-firsts size 32 in
    grind (arith, all)
