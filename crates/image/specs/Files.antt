-- The records of a store image. "Image, kind 1: path length (one byte, 2 to 63), path, contents."
use Rattle.std.specs.Prelude.{Bool, true, false, cond, not, ◌&&◌, List, [], ◌∷◌, ℕ, ◌+◌, ◌-◌, eqb, leb, ltb, length, drop, get_or, Option, Some, None}
use Rattle.octets.specs.Lists.{part, on_part}
use Rattle.octets.specs.Same.{same_bytes}
use Rattle.rows.specs.Records.{payload_length, kind, whole}
use Rattle.octets.specs.declared.span.Span.{Span}
use Rattle.octets.specs.Spans.{span}

-- ---- one record

unfoldable pub path_length : List ℕ → ℕ
path_length c = get_or c 6 0

unfoldable pub path : List ℕ → List ℕ
path c = part 7 (path_length c) c

-- where the contents stand in the record, and how many bytes they have
unfoldable pub contents_at : List ℕ → ℕ
contents_at c = 7 + path_length c

unfoldable pub contents_length : List ℕ → ℕ
contents_length c = length c - contents_at c

-- "A cut record or path, another kind, a bad path length .. makes the image bad": what a good record's kind, its path's length (2 to 63)
-- and its payload's length are; the path ends inside the payload
unfoldable pub good_numbers : ℕ → ℕ → ℕ → Bool
good_numbers k title count = eqb k 1 && (leb 2 title && (leb title 63 && ltb title count))

unfoldable pub good_record : List ℕ → Bool
good_record c = whole c && good_numbers (kind c) (path_length c) (payload_length c)

-- the record is a file with that path
unfoldable pub named : List ℕ → List ℕ → Bool
named p c = good_record c && same_bytes (path c) p

-- ---- all records of an image

-- where the contents of the first file with path p stand, for records that stand from place `at` on
unfoldable pub spot_in : List ℕ → ℕ → List (List ℕ) → Option Span
spot_in p at [] = None
spot_in p at (c ∷ cs) = cond (named p c) (Some (span (at + contents_at c) (contents_length c))) (spot_in p (at + length c) cs)

-- the contents of the first file with path p; none where there is no such file
unfoldable pub file_in : List ℕ → List (List ℕ) → List ℕ
file_in p [] = []
file_in p (c ∷ cs) = cond (named p c) (drop (contents_at c) c) (file_in p cs)

-- the contents of the first file with path p changed by f, all else as it was
unfoldable pub on_file_in : List ℕ → (List ℕ → List ℕ) → List (List ℕ) → List (List ℕ)
on_file_in p f [] = []
on_file_in p f (c ∷ cs) = cond (named p c) (on_part (contents_at c) (contents_length c) f c ∷ cs) (c ∷ on_file_in p f cs)

-- some file has path p
unfoldable pub holds : List ℕ → List (List ℕ) → Bool
holds p [] = false
holds p (c ∷ cs) = cond (named p c) true (holds p cs)

-- each record is good, and no path comes again behind it
unfoldable pub good_in : List (List ℕ) → Bool
good_in [] = true
good_in (c ∷ cs) = good_record c && (not (holds (path c) cs) && good_in cs)
