-- Document 01, "What each call must commit to": "Each public call's contract determines every number it returns and every lent byte afterwards,
-- refusals too. That two results allowed by one contract coincide is proved".
use Rattle.std.specs.Prelude.{List, ◌≡◌, refl, ℕ, Result, Ok, Err}
use Rattle.std.proofs.Common.{ap, sym, ◌∙◌}
use Rattle.checks.specs.Told.{Told, told}
use Rattle.checks.specs.Refusals.{answer}
use Rattle.checks.specs.Numbers.{number-same, number-not_zero}
use Rattle.checks.specs.declared.refusal.Refusal.{Refusal}

-- at most one thing has this property
abbrev pub AtMostOne : {A : Type 0} → (A → Type 0) → Type 0
AtMostOne {A} P = (x y : A) → P x → P y → x ≡ y

-- a contract that equates the result with a definition allows one result
pub plain : {A : Type 0} (z : A) → AtMostOne (λ (x : A). x ≡ z)
plain z x y p q = p ∙ sym q

-- a contract that equates what came out, put together by f, with a definition allows one result, where g takes it apart again
pub by_reading : {A B : Type 0} (f : A → B) (g : B → A) → ((x : A) → g (f x) ≡ x) → (z : B) → AtMostOne (λ (x : A). f x ≡ z)
by_reading f g e z x y p q = sym (e x) ∙ (ap g (p ∙ sym q) ∙ e y)

-- a number and one lent thing
pub by_told : (z : Told) → AtMostOne (λ (x : ℕ × List ℕ). told x.0 x.1 ≡ z)
by_told = by_reading (λ (x : ℕ × List ℕ). told x.0 x.1) (λ (z : Told). (z.number, z.lent)) (λ x. refl)

-- an outcome's number is that of one refusal, or of none
one_answer : (x y : Result (Unit {0}) Refusal) → answer x ≡ answer y → x ≡ y
one_answer (Ok u) (Ok v) e = refl
one_answer (Ok u) (Err r) e = absurd (number-not_zero r (sym e))
one_answer (Err r) (Ok v) e = absurd (number-not_zero r e)
one_answer (Err r) (Err s) e = ap (λ (n : Refusal). Err n) (number-same r s e)

pub by_answer : (z : ℕ) → AtMostOne (λ (x : Result (Unit {0}) Refusal). answer x ≡ z)
by_answer z x y p q = one_answer x y (p ∙ sym q)
