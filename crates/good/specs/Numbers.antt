-- Numbers that are not 216, BAD_STATE: a chain of checks without it gives it to no call, and in a good world the common checks do not either.
use Rattle.std.specs.Prelude.{Bool, ◌&&◌, ◌||◌, List, [], ◌∷◌, ◌≡◌, refl, ℕ, eqb, length, true, false, not}
use Rattle.std.proofs.Common.{eq-eqb}
use Rattle.std.proofs.Math.Bool.{and-eq-true_iff}
use Rattle.std.proofs.lemmas.Bool.{eqb-false, not-true}
use Rattle.checks.specs.Checks.{Check, ◌when◌, refused, after}
use Rattle.devices.specs.Choice.{by_cond}
use Rattle.state.specs.declared.Plan.{Plan}
use Rattle.state.specs.declared.State.{State}
use Rattle.state.specs.Parts.{is_active}
use Rattle.guard.specs.Test.{good}
use Rattle.guard.specs.Guard.{guard}
use Rattle.accounts.specs.Users.{readable}
use Rattle.terminal.specs.Terminal.{record_of, table_of, guard_of, differs, tables_wrong}
use Rattle.steps.specs.World.{World}
use Rattle.good.specs.Good.{plan_of, Good}
use Rattle.good.specs.AccountMoves.{table-readable}

-- another number than BAD_STATE's
abbrev pub Other : ℕ → Type 0
Other n = n ≡ 216 → ⊥

-- a number that is seen to be another
pub seen : (n : ℕ) → eqb n 216 ≡ false → Other n
seen n e = eqb-false n 216 e

-- none of these checks gives it
unfoldable pub others : List Check → Bool
others [] = true
others (c ∷ checks) = not (eqb c.number 216) && others checks

pub after-other : (n : ℕ) (checks : List Check) → Other n → others checks ≡ true → Other (after n checks)
unfolding after others refused
after-other n [] h e = h
after-other n (c ∷ checks) h e =
    let b = (and-eq-true_iff (not (eqb c.number 216)) (others checks)).0 e in
    after-other (refused n c.due c.number) checks
    (by_cond Other (eqb n 0)
    (λ z. by_cond Other c.due (λ d. seen c.number (not-true (eqb c.number 216) b.0)) (λ d. seen 0 refl))
    (λ z. h))
    b.1

not-due-other : (due : Bool) (checks : List Check) → due ≡ false → others checks ≡ true → Other (after 0 ((216 when due) ∷ checks))
unfolding after refused
not-due-other due checks e h = rw e (after-other 0 checks (seen 0 refl) h)

-- ---- the common checks

guard-other : (plan : Plan) (s : State) (wrong : Bool) (p : ℕ) → good plan s ≡ true → wrong ≡ false → Other (guard plan s wrong p)
unfolding guard others
guard-other plan s wrong p tested fits =
    let due : (wrong || not (good plan s)) ≡ false = rw (fits, tested) in
    not-due-other (wrong || not (good plan s)) ((212 when s.stopped) ∷ (213 when not (is_active plan p)) ∷ []) due refl

-- an area as long as at start
pub fits : (area : List ℕ) (kept : ℕ) → length area ≡ kept → differs area kept ≡ false
unfolding differs
fits area kept e = rw (eq-eqb (length area) kept e)

module _ (w : World) (g : Good w) where
  pub passed : (wrong : Bool) (p : ℕ) → wrong ≡ false → Other (guard_of w.terminal wrong p)
  unfolding guard_of
  passed wrong p e = guard-other (plan_of w) w.terminal.state wrong p g.tested e

  pub store-fits : differs w.store (plan_of w).kept.store ≡ false
  store-fits = fits w.store (plan_of w).kept.store g.store_long

  pub arena-fits : differs w.arena (plan_of w).kept.arena ≡ false
  arena-fits = fits w.arena (plan_of w).kept.arena g.arena_long

  pub screens-fit : differs w.screens (plan_of w).kept.screens ≡ false
  screens-fit = fits w.screens (plan_of w).kept.screens g.screens_long

  -- the tables are as long as at start, and an active partition's can be read
  pub tables-fit : (p : ℕ) → tables_wrong w.terminal p w.tables ≡ false
  unfolding tables_wrong
  tables-fit p = rw (fits w.tables (plan_of w).kept.tables g.tables_long) (go (is_active (plan_of w) p) refl)
    where
      go : (t : Bool) → is_active (plan_of w) p ≡ t → (is_active (plan_of w) p && not (readable (record_of w.terminal p) (table_of w.terminal p w.tables))) ≡ false
      go true e = rw (e, table-readable w g p e)
      go false e = rw e
