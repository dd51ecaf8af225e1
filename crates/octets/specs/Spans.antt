-- A part of a row, by its place and its length.
use Rattle.std.specs.Prelude.{List, ℕ}
use Rattle.octets.specs.Lists.{part}
use Rattle.octets.specs.declared.span.Span.{Span}

abbrev pub no_span : Span
no_span = record { place = 0; length = 0 }

abbrev pub span : ℕ → ℕ → Span
span place n = record { place = place; length = n }

-- the bytes that it spans, fewer where the row ends first
unfoldable pub bytes_of : List ℕ → Span → List ℕ
bytes_of row p = part p.place p.length row
