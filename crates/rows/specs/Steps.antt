-- What a reader finds that walks a row record by record and keeps its place.
use Rattle.std.specs.Prelude.{cond, List, [], ◌∷◌, ℕ, ◌+◌, drop}
use Rattle.octets.specs.Spans.{span}
use Rattle.rows.specs.declared.Cursor.{Cursor}
use Rattle.rows.specs.declared.Step.{Step}
use Rattle.rows.specs.declared.Step.TheVariants.{Record, Cut, End}
use Rattle.rows.specs.Records.{payload_length, kind, size, chunks, whole}

abbrev pub first_place : Cursor
first_place = record { at = 0 }

-- the first of the records that stand from place `at` on: its kind, the place and the length of its payload, and the place behind it
unfoldable pub step_of : ℕ → List (List ℕ) → Step
step_of at [] = End
step_of at (c ∷ cs) = cond (whole c) (Record (kind c) (span (at + 6) (payload_length c)) (record { at = at + size c })) Cut

-- the step at place `at` of a row
unfoldable pub step_at : List ℕ → ℕ → Step
step_at row at = step_of at (chunks (drop at row))
