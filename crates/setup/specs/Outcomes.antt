-- What reading gives, in the rules' numbers.
use Rattle.std.specs.Prelude.{ℕ}
use Rattle.setup.specs.declared.Setup.{Setup}

-- what reading one statement gives: 0, the place behind it, its rank and the set-up with it; or a refusal's number and line, and an empty set-up
pub record Judged : Type 0 where
  pub number : ℕ
  pub line : ℕ
  pub next : ℕ
  pub rank : ℕ
  pub setup : Setup

-- what reading a text gives: 0 and the set-up, or a refusal's number and line and an empty set-up
pub record Outcome : Type 0 where
  pub number : ℕ
  pub line : ℕ
  pub setup : Setup
