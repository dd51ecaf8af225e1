-- What the place and the length of a span say.
use Rattle.std.specs.Prelude.{◌≡◌, ℕ, Option, Some}
use Rattle.std.proofs.Common.{ap}
use Rattle.octets.specs.declared.span.Span.{Span}
use Rattle.octets.specs.Spans.{span}

-- what was found at two places is found at one
pub same_found : {a n b m : ℕ} → ◌≡◌ {A = Option Span} (Some (span a n)) (Some (span b m)) → (a ≡ b) × (n ≡ m)
same_found {a} {n} {b} {m} e =
    let s : ◌≡◌ {A = Span} (span a n) (span b m) = cc in
    (ap (λ (p : Span). p.place) s, ap (λ (p : Span). p.length) s)
