-- `text::runs::decimal` meets its contract. Assumes nothing.
use Rattle.std.proofs.Common.{rules, ◌≡◌, ◌∙◌, ◌+◌, ◌*◌, ◌-◌, min}
use Rattle.std.specs.List.{fold}
use Rattle.text.specs.RunLaws.{held_all}
use Rattle.text.proofs.runs.decimal.Goals as goal

pub returns : goal.returns
returns c = let held : c.fold.result ≡ fold (λ v b. min (v * 10 + (b - 48)) 4294967296) 0 c.args.digits.now = search rules in
    held ∙ held_all c.args.digits.now
