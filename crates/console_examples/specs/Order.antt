-- The refusals of the device calls, where two are due at once or a bound is met.
use Rattle.std.specs.Prelude.{List, [], ◌∷◌, ◌≡◌, refl, ℕ}
use Rattle.console.specs.Console.{refusal, read_next, read_random, write_random, write_next}
use Rattle.console_examples.specs.Opened.{idle, broken, opened}

-- whatever the screens and the lent part hold
pub record Order (screens : List ℕ) (a b : ℕ) : Type 0 where
  -- "2,000: 210; 2,001: 209"
  pub read_end : read_random 0 idle 0 2 0 2000 1 screens (a ∷ b ∷ []) ≡ refusal 210 idle (a ∷ b ∷ [])
  pub read_behind : read_random 0 idle 0 2 0 2001 1 screens (a ∷ b ∷ []) ≡ refusal 209 idle (a ∷ b ∷ [])
  pub write_end : write_random 0 idle 0 2 0 2000 1 (a ∷ b ∷ []) screens ≡ refusal 210 idle screens
  pub write_behind : write_random 0 idle 0 2 0 2001 1 (a ∷ b ∷ []) screens ≡ refusal 209 idle screens
  -- "Write-random on keyboard: 208, next-write: 202", whatever the minor, and only with the right one
  pub random_keyboard : write_random 0 idle 0 1 0 0 1 (a ∷ b ∷ []) screens ≡ refusal 208 idle screens
  pub random_other : write_random 0 idle 0 1 7 0 1 (a ∷ b ∷ []) screens ≡ refusal 208 idle screens
  pub random_read : read_random 0 idle 0 1 0 2001 9 screens (a ∷ b ∷ []) ≡ refusal 208 idle (a ∷ b ∷ [])
  pub next_keyboard : write_next 0 idle 0 1 0 1 (a ∷ b ∷ []) screens ≡ refusal 202 idle screens
  pub next_other : write_next 0 idle 0 1 7 1 (a ∷ b ∷ []) screens ≡ refusal 205 idle screens
  -- no such device
  pub major0 : read_next 0 idle 0 0 7 1 (a ∷ b ∷ []) ≡ refusal 204 idle (a ∷ b ∷ [])
  pub major3 : write_random 0 idle 0 3 7 2001 1 (a ∷ b ∷ []) screens ≡ refusal 204 idle screens
  -- another partition's screen
  pub minor : read_random 0 idle 1 2 0 2001 9 screens (a ∷ b ∷ []) ≡ refusal 205 idle (a ∷ b ∷ [])
  -- a lent part that is too short goes before a fault, and a fault before there is nothing
  pub short_read : read_random 0 broken 0 2 0 0 3 screens (a ∷ b ∷ []) ≡ refusal 214 broken (a ∷ b ∷ [])
  pub faulty_read : read_random 0 broken 0 2 0 0 2 screens (a ∷ b ∷ []) ≡ refusal 207 broken (a ∷ b ∷ [])
  pub short_write : write_next 0 broken 0 2 0 3 (a ∷ b ∷ []) screens ≡ refusal 214 broken screens
  pub faulty_write : write_next 0 broken 0 2 0 2 (a ∷ b ∷ []) screens ≡ refusal 203 broken screens
  pub faulty_cells : write_random 0 broken 0 2 0 0 2 (a ∷ b ∷ []) screens ≡ refusal 203 broken screens
  pub short_keys : read_next 0 broken 0 1 0 3 (a ∷ b ∷ []) ≡ refusal 214 broken (a ∷ b ∷ [])
  pub faulty_keys : read_next 0 broken 0 1 0 2 (a ∷ b ∷ []) ≡ refusal 207 broken (a ∷ b ∷ [])
  pub no_key : read_next 0 idle 0 1 0 0 (a ∷ b ∷ []) ≡ refusal 206 idle (a ∷ b ∷ [])
  pub next_screen : read_next 0 idle 0 2 0 2 (a ∷ b ∷ []) ≡ refusal 206 idle (a ∷ b ∷ [])
  -- what the common checks refused stays refused
  pub stopped : read_next 212 idle 0 0 7 3 (a ∷ b ∷ []) ≡ refusal 212 idle (a ∷ b ∷ [])

pub order : (screens : List ℕ) (a b : ℕ) → Order screens a b
unfolding opened
order screens a b =
    record {
      read_end = refl;
      read_behind = refl;
      write_end = refl;
      write_behind = refl;
      random_keyboard = refl;
      random_other = refl;
      random_read = refl;
      next_keyboard = refl;
      next_other = refl;
      major0 = refl;
      major3 = refl;
      minor = refl;
      short_read = refl;
      faulty_read = refl;
      short_write = refl;
      faulty_write = refl;
      faulty_cells = refl;
      short_keys = refl;
      faulty_keys = refl;
      no_key = refl;
      next_screen = refl;
      stopped = refl;
    }
