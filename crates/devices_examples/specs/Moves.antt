-- Random read and write of a screen: min(request, 2,000 − offset) cells move.
use Rattle.std.specs.Prelude.{List, [], ◌∷◌, ◌++◌, ◌≡◌, refl, ℕ}
use Rattle.octets.specs.Lists.{part, over, write_at}
use Rattle.devices.specs.Screen.{blanks, moved, transfer, random_read, read_out, random_write, write_out}

abbrev five : List ℕ
five = 10 ∷ 13 ∷ 8 ∷ 0 ∷ 255 ∷ []

pub record Moves : Type 0 where
  -- 10, 13 and 8 are cells like any others
  pub write : random_write 3 5 five (blanks 2000) ≡ transfer 5 (blanks 3 ++ (five ++ blanks 1992))
  pub write_fewer : random_write 3 2 five (blanks 2000) ≡ transfer 2 (blanks 3 ++ (10 ∷ 13 ∷ blanks 1995))
  pub write_none : random_write 3 0 five (blanks 2000) ≡ transfer 0 (blanks 2000)
  pub write_last : random_write 1999 5 five (blanks 2000) ≡ transfer 1 (blanks 1999 ++ (10 ∷ []))
  pub write_end : random_write 2000 5 five (blanks 2000) ≡ transfer 0 (blanks 2000)
  pub write_behind : random_write 2001 5 five (blanks 2000) ≡ transfer 0 (blanks 2000)
  -- a request that the lent part is too short for moves what there is
  pub write_short : random_write 0 9 five (blanks 2000) ≡ transfer 5 (five ++ blanks 1995)
  pub read : random_read 1998 5 (blanks 1998 ++ (65 ∷ 66 ∷ [])) (1 ∷ 2 ∷ 3 ∷ 4 ∷ 5 ∷ []) ≡ transfer 2 (65 ∷ 66 ∷ 3 ∷ 4 ∷ 5 ∷ [])
  pub read_last : random_read 1999 5 (blanks 1999 ++ (65 ∷ [])) (1 ∷ 2 ∷ 3 ∷ 4 ∷ 5 ∷ []) ≡ transfer 1 (65 ∷ 2 ∷ 3 ∷ 4 ∷ 5 ∷ [])
  pub read_end : random_read 2000 5 (blanks 2000) (1 ∷ 2 ∷ []) ≡ transfer 0 (1 ∷ 2 ∷ [])
  pub read_fewer : random_read 0 1 (65 ∷ blanks 1999) (1 ∷ 2 ∷ []) ≡ transfer 1 (65 ∷ 2 ∷ [])
  pub read_short : random_read 0 9 (65 ∷ blanks 1999) (1 ∷ 2 ∷ []) ≡ transfer 2 (65 ∷ 32 ∷ [])

pub moves : Moves
unfolding random_read read_out random_write write_out moved part over write_at
moves =
    record {
      write = refl;
      write_fewer = refl;
      write_none = refl;
      write_last = refl;
      write_end = refl;
      write_behind = refl;
      write_short = refl;
      read = refl;
      read_last = refl;
      read_end = refl;
      read_fewer = refl;
      read_short = refl;
    }
