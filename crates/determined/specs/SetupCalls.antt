-- Crate setup: two results that one contract allows are equal. A theorem for each public function, in the order of the source.
use Rattle.std.specs.Prelude.{Bool, List, ◌≡◌, refl, ℕ, Result, Ok, Err}
use Rattle.std.proofs.Common.{ap, ap₂, sym, ◌∙◌}
use Rattle.checks.specs.Refusals.{answer}
use Rattle.checks.specs.declared.refusal.Refusal.{Refusal}
use Rattle.checks.specs.Numbers.{number-same, number-not_zero}
use Rattle.setup.specs.declared.Refused.{Refused}
use Rattle.setup.specs.Views.{outcome_of}
use Rattle.setup.specs.Outcomes.{Outcome}
use Rattle.setup.specs.declared.Setup.{Setup}
use Rattle.setup.specs.Setup.{is_active, has_code}
use Rattle.setup.specs.Reading.{permission_table, read as Reading·read}
use Rattle.setup.specs.Rules.{limits as Rules·limits}
use Rattle.determined.specs.Determined.{AtMostOne, plain, by_answer}

pub is-active : (self : Setup) (p : ℕ) → AtMostOne (λ (x : Bool). x ≡ is_active self p)
is-active self p = plain _

pub has_code_lem : (self : Setup) (p : ℕ) → AtMostOne (λ (x : Bool). x ≡ has_code self p)
has_code_lem self p = plain _

pub permission-table : (setup : Setup) → AtMostOne (λ (x : List (List ℕ)). x ≡ permission_table setup)
permission-table setup = plain _

pub limits : (count : ℕ) (active : List Bool) (bytes : ℕ) → AtMostOne (λ (x : Result (Unit {0}) Refusal). answer x ≡ Rules·limits count active bytes)
limits count active bytes = by_answer _

-- and so an outcome is that of one result
one_outcome : (x y : Result Setup Refused) → outcome_of x ≡ outcome_of y → x ≡ y
one_outcome (Ok s) (Ok t) e = ap (λ (o : Outcome). Ok o.setup) e
one_outcome (Ok s) (Err r) e = absurd (number-not_zero r.refusal (sym (ap (λ (o : Outcome). o.number) e)))
one_outcome (Err r) (Ok t) e = absurd (number-not_zero r.refusal (ap (λ (o : Outcome). o.number) e))
one_outcome (Err r) (Err s) e =
    ap₂ (λ (n : Refusal) (l : ℕ). Err (record { refusal = n; line = l }))
    (number-same r.refusal s.refusal (ap (λ (o : Outcome). o.number) e)) (ap (λ (o : Outcome). o.line) e)

pub read : (look : Bool) (image text : List ℕ) (count : ℕ) (active : List Bool)
    → AtMostOne (λ (x : Result Setup Refused). outcome_of x ≡ Reading·read look image text count active)
read look image text count active x y p q = one_outcome x y (p ∙ sym q)
