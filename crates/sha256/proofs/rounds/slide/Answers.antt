use Rattle.std.proofs.Common.{ℕ, List, [], ◌∷◌, ◌++◌, sym, ap₂, arith}
use Rattle.sha256.specs.Window.{slide}
use Rattle.sha256.proofs.Rows.{drop-elements}
use Rattle.sha256.proofs.rounds.slide.Goals as goal

pub returns : goal.returns
unfolding slide
returns c = ap₂ (λ (l : List ℕ) (x : ℕ). l ++ (x ∷ [])) (sym (drop-elements 15 1 c.args.w (omega arith))) c.next_word-next.ensures
