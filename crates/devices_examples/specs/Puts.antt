-- What one byte does to a screen, at every place where next-write makes a difference.
use Rattle.std.specs.Prelude.{List, [], ◌∷◌, ◌++◌, ◌≡◌, refl, ℕ, replicate}
use Rattle.devices.specs.Screen.{screen, blanks, row, column, scrolled, next_row, advance, back, placed, put, put_all, is_screen, on_screen}

-- a screen whose first row is all a, whose last is all c, with b between
abbrev full : List ℕ
full = replicate 80 97 ++ (replicate 1840 98 ++ replicate 80 99)

-- the same, scrolled up one row
abbrev up : List ℕ
up = replicate 1840 98 ++ (replicate 80 99 ++ blanks 80)

-- a byte that is placed
pub record Placed : Type 0 where
  pub first : put 65 (screen (blanks 2000) 0) ≡ screen (65 ∷ blanks 1999) 1
  pub column78 : put 65 (screen (blanks 2000) 78) ≡ screen (blanks 78 ++ (65 ∷ blanks 1921)) 79
  pub column79 : put 65 (screen (blanks 2000) 79) ≡ screen (blanks 79 ++ (65 ∷ blanks 1920)) 80
  pub row23 : put 65 (screen full 1919) ≡ screen (replicate 80 97 ++ (replicate 1839 98 ++ (65 ∷ replicate 80 99))) 1920
  pub last_cell : put 65 (screen full 1999) ≡ screen (replicate 1840 98 ++ (replicate 79 99 ++ (65 ∷ blanks 80))) 1920
  pub byte0 : put 0 (screen full 0) ≡ screen (0 ∷ (replicate 79 97 ++ (replicate 1840 98 ++ replicate 80 99))) 1
  pub byte127 : put 127 (screen (blanks 2000) 80) ≡ screen (blanks 80 ++ (127 ∷ blanks 1919)) 81
  pub byte255 : put 255 (screen (blanks 2000) 1998) ≡ screen (blanks 1998 ++ (255 ∷ blanks 1)) 1999

pub placings : Placed
unfolding put placed advance next_row row column scrolled
placings =
    record { first = refl; column78 = refl; column79 = refl; row23 = refl; last_cell = refl; byte0 = refl; byte127 = refl; byte255 = refl }

-- 10, 13 and 8
pub record Moved : Type 0 where
  pub feed : put 10 (screen full 5) ≡ screen full 80
  pub feed_column79 : put 10 (screen full 79) ≡ screen full 80
  pub feed_row23 : put 10 (screen full 1919) ≡ screen full 1920
  pub feed_row24 : put 10 (screen full 1925) ≡ screen up 1920
  pub feed_last_cell : put 10 (screen full 1999) ≡ screen up 1920
  pub return : put 13 (screen full 165) ≡ screen full 160
  pub return_column0 : put 13 (screen full 160) ≡ screen full 160
  pub return_last_cell : put 13 (screen full 1999) ≡ screen full 1920
  pub back79 : put 8 (screen full 159) ≡ screen full 158
  pub back1 : put 8 (screen full 81) ≡ screen full 80
  pub back0 : put 8 (screen full 80) ≡ screen full 80
  pub back_first : put 8 (screen full 0) ≡ screen full 0

pub moves : Moved
unfolding put back next_row row column scrolled
moves =
    record {
      feed = refl;
      feed_column79 = refl;
      feed_row23 = refl;
      feed_row24 = refl;
      feed_last_cell = refl;
      return = refl;
      return_column0 = refl;
      return_last_cell = refl;
      back79 = refl;
      back1 = refl;
      back0 = refl;
      back_first = refl;
    }

-- runs, and what is no screen
pub record Runs : Type 0 where
  -- A, back, B: the cell is taken again
  pub over : on_screen (put_all (65 ∷ 8 ∷ 66 ∷ [])) (screen (blanks 2000) 0) ≡ screen (66 ∷ blanks 1999) 1
  -- A and a line feed behind the last cell but one: one scroll
  pub last_two : on_screen (put_all (65 ∷ 10 ∷ [])) (screen full 1998) ≡ screen (replicate 1840 98 ++ (replicate 78 99 ++ (65 ∷ 99 ∷ blanks 80))) 1920
  -- A in the last cell and a line feed: two scrolls
  pub wrapped : on_screen (put_all (65 ∷ 10 ∷ [])) (screen full 1999) ≡ screen (replicate 1760 98 ++ (replicate 79 99 ++ (65 ∷ blanks 160))) 1920
  pub nothing : on_screen (put_all []) (screen full 7) ≡ screen full 7
  pub short : on_screen (put_all (65 ∷ 10 ∷ [])) (screen (1 ∷ 2 ∷ []) 0) ≡ screen (1 ∷ 2 ∷ []) 0
  pub away : on_screen (put_all (65 ∷ 10 ∷ [])) (screen full 2000) ≡ screen full 2000

pub runs : Runs
unfolding on_screen is_screen put_all put placed advance back next_row row column scrolled
runs = record { over = refl; last_two = refl; wrapped = refl; nothing = refl; short = refl; away = refl }
