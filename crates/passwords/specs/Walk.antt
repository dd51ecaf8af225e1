-- The records of a password file one by one. A record that the file's end cuts off is a record too, the last one: it goes to the end, is read and counted
-- like any other, and only `shaped` refuses it. A well-formed file has none.
use Rattle.std.specs.Prelude.{List, [], ◌∷◌, ℕ, zero, suc, ◌+◌, length, Option, Some, None}
use Rattle.octets.specs.declared.span.Span.{Span}
use Rattle.octets.specs.Spans.{span}
use Rattle.rows.specs.Records.{chunks}
use Rattle.passwords.specs.declared.walk.Reading.{Reading}

-- the first of the records that stand from place `at` on is read, where `count` were read before: its number, and where it stands
unfoldable pub reading_of : ℕ → ℕ → List (List ℕ) → Option Reading
reading_of count at [] = None
reading_of count at (c ∷ cs) = Some (record { number = count; span = span at (length c) })

-- the place behind what was read
unfoldable pub place_behind : ℕ → Option Reading → ℕ
place_behind at None = at
place_behind at (Some r) = r.span.place + r.span.length

-- the count of records read, raised by one
unfoldable pub count_behind : ℕ → Option Reading → ℕ
count_behind count None = count
count_behind count (Some r) = count + 1

-- where record i of those from place `at` on stands; no bytes behind the last where there is none
unfoldable pub span_from : ℕ → ℕ → List (List ℕ) → Span
span_from at i [] = span at 0
span_from at zero (c ∷ cs) = span at (length c)
span_from at (suc i) (c ∷ cs) = span_from (at + length c) i cs

unfoldable pub span_of : ℕ → List ℕ → Span
span_of i file = span_from 0 i (chunks file)
