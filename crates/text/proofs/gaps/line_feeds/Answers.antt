-- `text::gaps::line_feeds` meets its contract. Assumes nothing.
use Rattle.std.proofs.Common.{rules, ◌≡◌, ◌∙◌, sym, eqb, count_by}
use Rattle.text.specs.RunLaws.{feeds_counted}
use Rattle.text.proofs.gaps.line_feeds.Goals as goal

pub returns : goal.returns
returns c = let counted : c.count.result ≡ count_by (λ b. eqb b 10) c.args.text.now = search rules in
    counted ∙ sym (feeds_counted c.args.text.now)
