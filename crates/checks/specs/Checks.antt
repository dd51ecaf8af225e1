-- Document 01 gives refusals as numbers in an order of checking. Here that is a list of checks, a number and when it is given; the first that
-- holds is the answer, and 0 is no refusal.
use Rattle.std.specs.Prelude.{Bool, cond, List, [], ◌∷◌, ℕ, eqb}

-- a refusal's number, and whether it is due
pub record Check : Type 0 where
  pub number : ℕ
  pub due : Bool

infix 20 ◌when◌
abbrev pub ◌when◌ : ℕ → Bool → Check
number when due = record { number = number; due = due }

-- n, or a refusal's number where nothing was refused before
unfoldable pub refused : ℕ → Bool → ℕ → ℕ
refused n due number = cond (eqb n 0) (cond due number 0) n

-- the first refusal that is due, behind n
unfoldable pub after : ℕ → List Check → ℕ
after n [] = n
after n (c ∷ checks) = after (refused n c.due c.number) checks
