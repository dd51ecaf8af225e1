-- What it says that nothing was refused, and that something was.
use Rattle.std.specs.Prelude.{Bool, true, false, cond, List, [], ◌∷◌, ◌≡◌, refl, ℕ, eqb, Result}
use Rattle.std.proofs.Common.{sym, eqb-true, ne_eqb}
use Rattle.std.proofs.lemmas.Bool.{eqb-false}
use Rattle.checks.specs.declared.refusal.Refusal.{Refusal}
use Rattle.checks.specs.Checks.{Check, ◌when◌, refused, after}
use Rattle.checks.specs.Refusals.{answer, behind}

refused-zero : (n : ℕ) (due : Bool) (number : ℕ) → refused n due number ≡ 0 → n ≡ 0
unfolding refused
refused-zero n due number e = go (eqb n 0) refl
  where
    go : (t : Bool) → eqb n 0 ≡ t → n ≡ 0
    go true h = eqb-true n 0 h
    go false h = rw h at e

after-zero : (n : ℕ) (checks : List Check) → after n checks ≡ 0 → n ≡ 0
unfolding after
after-zero n [] e = e
after-zero n (c ∷ checks) e = refused-zero n c.due c.number (after-zero (refused n c.due c.number) checks e)

not-refused : (n : ℕ) (due : Bool) (number : ℕ) → refused n due number ≡ 0 → (number ≡ 0 → ⊥) → due ≡ false
unfolding refused
not-refused n false number e h = refl
not-refused n true number e h =
    let z : n ≡ 0 = refused-zero n true number e in
    absurd (h (rw z at e))

-- where nothing is refused, no check is due
pub not-due : (n number : ℕ) (due : Bool) (checks : List Check) → after n ((number when due) ∷ checks) ≡ 0 → (number ≡ 0 → ⊥) → due ≡ false
unfolding after
not-due n number due checks e h = not-refused n due number (after-zero (refused n due number) checks e) h

-- nor the second one
pub second-not-due : (n number : ℕ) (c : Check) (due : Bool) (checks : List Check)
    → after n (c ∷ (number when due) ∷ checks) ≡ 0 → (number ≡ 0 → ⊥) → due ≡ false
unfolding after
second-not-due n number c due checks e h = not-due (refused n c.due c.number) number due checks e h

-- a refusal hides those behind it
pub after-refused : (n : ℕ) (checks : List Check) → (n ≡ 0 → ⊥) → after n checks ≡ n
unfolding after refused
after-refused n [] h = refl
after-refused n (c ∷ checks) h = rw (ne_eqb n 0 h) (after-refused n checks h)

-- behind n, an outcome that is told by a list of checks is told by the list behind n
pub behind_after : {A : Type 0} (n : ℕ) (checks : List Check) (outcome : Result A Refusal) → answer outcome ≡ after 0 checks → behind n outcome ≡ after n checks
behind_after n checks outcome e = go (eqb n 0) refl
  where
    go : (t : Bool) → eqb n 0 ≡ t → cond t (answer outcome) n ≡ after n checks
    go true h = rw (eqb-true n 0 h) e
    go false h = sym (after-refused n checks (eqb-false n 0 h))
