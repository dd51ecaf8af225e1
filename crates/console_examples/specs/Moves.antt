-- What the device calls move.
use Rattle.std.specs.Prelude.{false, List, [], ◌∷◌, ◌++◌, ◌≡◌, refl, ℕ, replicate}
use Rattle.devices.specs.Queue.{no_keys}
use Rattle.devices.specs.Screen.{blanks}
use Rattle.console.specs.Console.{outcome, reply, read_next, read_random, write_random, write_next}
use Rattle.console_examples.specs.Opened.{holding, idle, three, opened}

abbrev five : List ℕ
five = 1 ∷ 2 ∷ 3 ∷ 4 ∷ 5 ∷ []

pub record Moves : Type 0 where
  -- "Offset 1,999 request 5: one cell"
  pub read_last : read_random 0 idle 0 2 0 1999 5 (blanks 1999 ++ (65 ∷ [])) five ≡ outcome (reply 0 1 idle) (65 ∷ 2 ∷ 3 ∷ 4 ∷ 5 ∷ [])
  pub write_last : write_random 0 idle 0 2 0 1999 5 five (blanks 2000) ≡ outcome (reply 0 1 idle) (blanks 1999 ++ (1 ∷ []))
  -- partition 1's screen begins at byte 2,000; bytes behind it stay
  pub second_screen : write_random 0 idle 1 2 1 0 2 five (blanks 4000 ++ (65 ∷ [])) ≡ outcome (reply 0 2 idle) (blanks 2000 ++ (1 ∷ 2 ∷ (blanks 1998 ++ (65 ∷ []))))
  pub second_last : write_random 0 idle 1 2 1 1999 5 five (blanks 4000 ++ (65 ∷ [])) ≡ outcome (reply 0 1 idle) (blanks 3999 ++ (1 ∷ 65 ∷ []))
  -- the oldest keys go
  pub keys : read_next 0 (holding three 7 false) 0 1 0 2 five ≡ outcome (reply 0 2 (holding (record { keys = 99 ∷ replicate 63 0; held = 1 }) 7 false)) (97 ∷ 98 ∷ 3 ∷ 4 ∷ 5 ∷ [])
  pub all_keys : read_next 0 (holding three 7 false) 0 1 0 5 five ≡ outcome (reply 0 3 (holding no_keys 7 false)) (97 ∷ 98 ∷ 99 ∷ 4 ∷ 5 ∷ [])
  -- A, back, B: the count is the request, and bytes behind it are not put
  pub put : write_next 0 idle 1 2 1 3 (65 ∷ 8 ∷ 66 ∷ 67 ∷ []) (blanks 4000) ≡ outcome (reply 0 3 (holding no_keys 1 false)) (blanks 2000 ++ (66 ∷ blanks 1999))

pub moves : Moves
unfolding opened
moves = record { read_last = refl; write_last = refl; second_screen = refl; second_last = refl; keys = refl; all_keys = refl; put = refl }
