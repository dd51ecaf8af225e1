-- What a call that writes one lent thing comes to.
use Rattle.std.specs.Prelude.{List, ℕ}

-- the answer's number, and the lent buffer or area afterwards
pub record Told : Type 0 where
  pub number : ℕ
  pub lent : List ℕ

abbrev pub told : ℕ → List ℕ → Told
told number lent = record { number = number; lent = lent }
