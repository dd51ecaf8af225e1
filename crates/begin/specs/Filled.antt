-- What start writes into the lent areas, from its plan.
use Rattle.std.specs.Prelude.{cond, List, ℕ, zero, suc, ◌*◌, ltb, replicate}
use Rattle.octets.specs.Lists.{part, write_at}
use Rattle.octets.specs.declared.span.Span.{Span}
use Rattle.state.specs.declared.Plan.{Plan}
use Rattle.state.specs.Parts.{segment_at, seat_at, is_active}
use Rattle.begin.specs.Each.{joined}

-- the bytes of a file
unfoldable pub file_bytes : List ℕ → Span → List ℕ
file_bytes store file = part file.place file.length store

-- "each dseg's file in order, then msegs of zeros": what a segment is filled with
unfoldable pub contents_of : Plan → List ℕ → ℕ → List ℕ
contents_of plan store row = cond (ltb row 16) (file_bytes store (segment_at plan row).file) (replicate (segment_at plan row).memory.length 0)

-- "Start fills the arena without gaps"
unfoldable pub arena_image : Plan → List ℕ → List ℕ
arena_image plan store = joined (contents_of plan store) 32

-- "the table area likewise, with each active partition's password file"
unfoldable pub table_of : Plan → List ℕ → ℕ → List ℕ
table_of plan store p = file_bytes store (seat_at plan p).file

unfoldable pub tables_image : Plan → List ℕ → List ℕ
tables_image plan store = joined (table_of plan store) 8

-- "Active partitions' screens (p's from byte 2,000 × p) become spaces (32), other screen bytes stay", of the n first partitions
unfoldable pub blank_screen : List ℕ
blank_screen = replicate 2000 32

unfoldable pub cleared : Plan → ℕ → List ℕ → List ℕ
cleared plan zero screens = screens
cleared plan (suc n) screens = cond (is_active plan n) (write_at (2000 * n) blank_screen (cleared plan n screens)) (cleared plan n screens)
