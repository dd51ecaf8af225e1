-- A screen of 25 rows of 80 with a cursor.
-- A cell is a place 0 to 1,999: column c of row r is 80 × r + c.
use Rattle.std.specs.Prelude.{Bool, cond, ◌&&◌, List, [], ◌∷◌, ◌++◌, ℕ, ◌+◌, ◌-◌, ◌*◌, ◌/◌, ◌%◌, min, eqb, ltb, length, take, drop, replicate, set}
use Rattle.octets.specs.Lists.{part, over, write_at}

-- the cells and the cursor's place
pub record Screen : Type 0 where
  pub cells : List ℕ
  pub cursor : ℕ

abbrev pub screen : List ℕ → ℕ → Screen
screen cells cursor = record { cells = cells; cursor = cursor }

unfoldable pub row : ℕ → ℕ
row place = place / 80

unfoldable pub column : ℕ → ℕ
column place = place % 80

-- "blanks": spaces
abbrev pub blanks : ℕ → List ℕ
blanks n = replicate n 32

-- "scrolls up one row and blanks the last"
unfoldable pub scrolled : List ℕ → List ℕ
scrolled cells = drop 80 cells ++ blanks 80

-- column 0 of the next row; "the next row after row 24 scrolls"
unfoldable pub next_row : Screen → Screen
next_row s = cond (ltb (row s.cursor) 24) (screen s.cells (80 * (row s.cursor + 1))) (screen (scrolled s.cells) (80 * 24))

-- "the cursor advances, from column 79 to the next row"
unfoldable pub advance : Screen → Screen
advance s = cond (ltb (column s.cursor) 79) (screen s.cells (s.cursor + 1)) (next_row s)

-- "8 one column back if there is one"
unfoldable pub back : Screen → Screen
back s = screen s.cells (cond (eqb (column s.cursor) 0) s.cursor (s.cursor - 1))

-- "another byte is placed"
unfoldable pub placed : ℕ → Screen → Screen
placed byte s = advance (screen (set s.cells s.cursor byte) s.cursor)

-- "10 goes to column 0 of the next row, 13 to column 0, 8 one column back if there is one; another byte is placed .."
unfoldable pub put : ℕ → Screen → Screen
put byte s =
    cond (eqb byte 10) (next_row s)
    (cond (eqb byte 13) (screen s.cells (80 * row s.cursor))
    (cond (eqb byte 8) (back s)
    (placed byte s)))

-- "Next-write puts all requested bytes"
unfoldable pub put_all : List ℕ → Screen → Screen
put_all [] s = s
put_all (byte ∷ bytes) s = put_all bytes (put byte s)

-- 2,000 cells and a cursor among them
unfoldable pub is_screen : Screen → Bool
is_screen s = eqb (length s.cells) 2000 && ltb s.cursor 2000

-- what is no screen stays as it is
unfoldable pub on_screen : (Screen → Screen) → Screen → Screen
on_screen f s = cond (is_screen s) (f s) s

-- "Random read and write move min(request, 2,000 − offset) cells": `size` cells there are, and the lent part has `room`
unfoldable pub moved : ℕ → ℕ → ℕ → ℕ → ℕ
moved size offset request room = min (min request (size - offset)) room

-- how many cells were moved, and what the lent part or the screen they went to holds afterwards
pub record Transfer : Type 0 where
  pub count : ℕ
  pub after : List ℕ

abbrev pub transfer : ℕ → List ℕ → Transfer
transfer count after = record { count = count; after = after }

-- n cells from `offset` on go over the start of the lent part, whose bytes behind them stay
unfoldable pub read_out : ℕ → ℕ → List ℕ → List ℕ → Transfer
read_out n offset cells buffer = transfer n (over (part offset n cells) buffer)

unfoldable pub random_read : ℕ → ℕ → List ℕ → List ℕ → Transfer
random_read offset request cells buffer = read_out (moved (length cells) offset request (length buffer)) offset cells buffer

-- the first n bytes of the lent part go over the cells from `offset` on
unfoldable pub write_out : ℕ → ℕ → List ℕ → List ℕ → Transfer
write_out n offset bytes cells = transfer n (write_at offset (take n bytes) cells)

unfoldable pub random_write : ℕ → ℕ → List ℕ → List ℕ → Transfer
random_write offset request bytes cells = write_out (moved (length cells) offset request (length bytes)) offset bytes cells
