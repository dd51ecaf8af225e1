-- What shutdown shows.
use Rattle.std.specs.Prelude.{false, List, [], ◌∷◌, ◌++◌, ◌≡◌, refl, ℕ, replicate}
use Rattle.devices.specs.Queue.{no_keys}
use Rattle.devices.specs.Screen.{blanks}
use Rattle.console.specs.Console.{drawing}
use Rattle.console.specs.Halt.{shown_message, halt}
use Rattle.console_examples.specs.Opened.{holding, idle, broken, opened}

-- which messages are shown
pub record Shown : Type 0 where
  pub one : shown_message (65 ∷ 0 ∷ 66 ∷ []) ≡ 65 ∷ []
  pub empty : shown_message (0 ∷ 65 ∷ []) ≡ []
  pub unended : shown_message (65 ∷ 66 ∷ []) ≡ []
  pub nothing : shown_message [] ≡ []
  pub eighty : shown_message (replicate 80 65 ++ (0 ∷ [])) ≡ replicate 80 65
  pub more : shown_message (replicate 81 65 ++ (0 ∷ [])) ≡ []

pub shown : Shown
unfolding opened
shown = record { one = refl; empty = refl; unended = refl; nothing = refl; eighty = refl; more = refl }

-- "SYSTEM HALTED"
abbrev halted : List ℕ
halted = 83 ∷ 89 ∷ 83 ∷ 84 ∷ 69 ∷ 77 ∷ 32 ∷ 72 ∷ 65 ∷ 76 ∷ 84 ∷ 69 ∷ 68 ∷ []

pub record Notice : Type 0 where
  pub message : halt (65 ∷ 0 ∷ []) 0 idle (blanks 2000) ≡ drawing (holding no_keys 93 false) (65 ∷ (blanks 79 ++ (halted ++ blanks 1907)))
  pub alone : halt [] 0 idle (blanks 2000) ≡ drawing (holding no_keys 93 false) (blanks 80 ++ (halted ++ blanks 1907))
  -- 80 bytes from column 0 wrap at once, so that an empty row stands before the notice
  pub row : halt (replicate 80 65 ++ (0 ∷ [])) 0 idle (blanks 2000) ≡ drawing (holding no_keys 173 false) (replicate 80 65 ++ (blanks 80 ++ (halted ++ blanks 1827)))
  pub faulty : (screens : List ℕ) → halt (65 ∷ 0 ∷ []) 0 broken screens ≡ drawing broken screens

pub noticed : Notice
unfolding opened
noticed = record { message = refl; alone = refl; row = refl; faulty = λ screens. refl }
