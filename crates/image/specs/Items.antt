-- What a reader finds at a place of an image: `rows`' steps with the record looked into.
use Rattle.std.specs.Prelude.{Bool, cond, List, [], ◌∷◌, ℕ, ◌+◌, length, drop}
use Rattle.octets.specs.declared.span.Span.{Span}
use Rattle.octets.specs.Spans.{span, bytes_of}
use Rattle.rows.specs.Records.{chunks, whole}
use Rattle.image.specs.declared.item.Item.{Item}
use Rattle.image.specs.declared.item.Item.TheVariants.{File, Other, Cut, End}
use Rattle.image.specs.Files.{path_length, contents_length, good_record, holds}

-- the first of the records that stand from place `at` on: its path's place and length, the length of its contents, and the place behind it
unfoldable pub item_of : ℕ → List (List ℕ) → Item
item_of at [] = End
item_of at (c ∷ cs) =
    cond (good_record c) (File (span (at + 7) (path_length c)) (contents_length c) (record { at = at + length c }))
    (cond (whole c) (Other (record { at = at + length c })) Cut)

unfoldable pub item_at : List ℕ → ℕ → Item
item_at image at = item_of at (chunks (drop at image))

-- the path that stands at `title` is a file's from place `from` on
unfoldable pub again_at : List ℕ → Span → ℕ → Bool
again_at image title from = holds (bytes_of image title) (chunks (drop from image))
