-- What start answers hangs on no digest.
use Rattle.std.specs.Prelude.{Bool, List, ◌≡◌, ℕ, length}
use Rattle.std.proofs.Common.{sym, ap, ◌∙◌}
use Rattle.checks.specs.Settle.{settle}
use Rattle.setup.specs.Outcomes.{Outcome}
use Rattle.begin.specs.Start.{Beginning, filled, carried_out, verdict}
use Rattle.begin.specs.Start.{start as begin}
use Rattle.terminal.specs.declared.Terminal.{Terminal}
use Rattle.terminal.specs.Start.{Start, begun_from, start}
use Rattle.steps.specs.World.{World}
use Rattle.started.specs.Start.{world_of, start-refused}
use Rattle.silence.proofs.Worlds.{settle-map}
use Rattle.demand3.specs.Images.{mask_image}
use Rattle.demand3.specs.Verdicts.{verdict_masked}

-- like arguments, but for the store
module _ (t : Terminal) (count : ℕ) (active : List Bool) (soft : Bool) (text arena tables screens : List ℕ) (permissions : List (List ℕ)) where
  abbrev from : List ℕ → Start
  from store = start t count active soft text store arena tables screens permissions

  abbrev judge : List ℕ → Outcome
  judge store = verdict count active text store (length arena) (length tables) (length screens)

  -- the answer is the verdict's
  number_of : (store : List ℕ) → (from store).started.number ≡ settle (judge store).number 0 (judge store).number
  unfolding start begun_from begin carried_out filled
  number_of store = sym (settle-map (λ (b : Beginning). b.number) (judge store).number _ _)

  line_of : (store : List ℕ) → (from store).started.line ≡ settle (judge store).number 0 (judge store).line
  unfolding start begun_from begin carried_out filled
  line_of store = sym (settle-map (λ (b : Beginning). b.line) (judge store).number _ _)

  -- blanked digests change no answer
  pub number_masked : (q : ℕ) (store : List ℕ) → (from (mask_image q store)).started.number ≡ (from store).started.number
  number_masked q store =
      number_of (mask_image q store)
      ∙ ap (λ (o : Outcome). settle o.number 0 o.number) (verdict_masked q store count active text _ _ _)
      ∙ sym (number_of store)

  module _ (q : ℕ) (store other : List ℕ) (like : mask_image q store ≡ mask_image q other) where
    same-verdict : judge store ≡ judge other
    same-verdict =
        sym (verdict_masked q store count active text _ _ _)
        ∙ ap judge like
        ∙ verdict_masked q other count active text _ _ _

    -- the same number and the same line
    pub same_number : (from store).started.number ≡ (from other).started.number
    same_number = number_of store ∙ ap (λ (o : Outcome). settle o.number 0 o.number) same-verdict ∙ sym (number_of other)

    pub same_line : (from store).started.line ≡ (from other).started.line
    same_line = line_of store ∙ ap (λ (o : Outcome). settle o.number 0 o.line) same-verdict ∙ sym (line_of other)

    abbrev before : List ℕ → World
    before image = record { terminal = t; permissions = permissions; store = image; arena = arena; tables = tables; screens = screens }

    -- refused in one, refused in both, and everything is as it was
    pub both-refused : ((from store).started.number ≡ 0 → ⊥) → (world_of (from store) store ≡ before store) × (world_of (from other) other ≡ before other)
    both-refused refused = (
      start-refused t count active soft text store arena tables screens permissions refused,
      start-refused t count active soft text other arena tables screens permissions (λ z. refused (same_number ∙ z)),
    )
