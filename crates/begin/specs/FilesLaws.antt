-- A file that was found does not stand at place 0, and what stands where it was found are its contents.
use Rattle.std.specs.Prelude.{not, List, [], ◌∷◌, ◌≡◌, ℕ, ◌+◌, ◌<◌, eqb, length, refl, Option, Some, None}
use Rattle.std.proofs.Common.{sym, ◌∙◌, arith, ne_eqb}
use Rattle.octets.specs.Lists.{part}
use Rattle.rows.specs.Records.{chunks}
use Rattle.rows.specs.LikeLaws.{by_test}
use Rattle.rows.specs.StepLaws.{clash}
use Rattle.octets.specs.declared.span.Span.{Span}
use Rattle.octets.specs.Spans.{span}
use Rattle.octets.specs.SpanLaws.{same_found}
use Rattle.image.specs.Files.{contents_at, named, spot_in}
use Rattle.image.specs.Image.{spot, file, found_part, was_found}
use Rattle.image.specs.PlaceLaws.{spot-none, spot-hit, spot_miss, file-place}
use Rattle.begin.specs.Files.{span_of}
use Rattle.begin.specs.Filled.{file_bytes}

-- a record's header stands before the contents
behind-header : (p : List ℕ) (at : ℕ) (cs : List (List ℕ)) (a n : ℕ) → spot_in p at cs ≡ Some (span a n) → 0 < a
unfolding contents_at
behind-header p at [] a n h = clash (cc (spot-none p at))
behind-header p at (c ∷ cs) a n h =
    by_test (named p c)
    (λ e. let place = (same_found (sym h ∙ spot-hit p at c cs e)).0 in omega arith)
    (λ e. behind-header p (at + length c) cs a n (sym (spot_miss p at c cs e) ∙ h))

module _ (p store : List ℕ) where
  missing_in : (f : Option Span) → spot p store ≡ f → eqb (span_of f).place 0 ≡ not (was_found f)
  unfolding span_of was_found spot
  missing_in (Some s) e = let h = behind-header p 0 (chunks store) s.place s.length e in ne_eqb s.place 0 (λ z. omega arith)
  missing_in None e = refl

  pub missing_place : eqb (span_of (spot p store)).place 0 ≡ not (was_found (spot p store))
  missing_place = missing_in (spot p store) refl

  bytes_in : (f : Option Span) → file_bytes store (span_of f) ≡ found_part f store
  unfolding span_of file_bytes found_part part
  bytes_in (Some s) = refl
  bytes_in None = refl

  pub found-bytes : file_bytes store (span_of (spot p store)) ≡ file p store
  found-bytes = bytes_in (spot p store) ∙ sym (file-place p store)
