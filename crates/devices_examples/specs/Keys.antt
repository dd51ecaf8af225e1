-- The keyboard's queue: keys in at the back, the oldest out first, 64 at most.
use Rattle.std.specs.Prelude.{List, [], ◌∷◌, ◌++◌, ◌≡◌, refl, ℕ, replicate}
use Rattle.octets.specs.Lists.{over, write_at}
use Rattle.devices.specs.Queue.{no_keys, held, queue, queue_add, takes, queue_drop, Took, take_out, queue_take}
use Rattle.devices.specs.declared.keyboard.Keyboard.{Keyboard}

abbrev keyboard : List ℕ → ℕ → Keyboard
keyboard keys held = record { keys = keys; held = held }

abbrev outcome : ℕ → Keyboard → List ℕ → Took
outcome count k buffer = record { count = count; keyboard = k; buffer = buffer }

-- the keys a, b and c
abbrev three : Keyboard
three = keyboard (97 ∷ 98 ∷ 99 ∷ replicate 61 0) 3

-- 64 keys: a and 63 times b
abbrev full : Keyboard
full = keyboard (97 ∷ replicate 63 98) 64

pub record Keys : Type 0 where
  pub first : queue_add 97 no_keys ≡ keyboard (97 ∷ replicate 63 0) 1
  pub in_order : queue_add 99 (queue_add 98 (queue_add 97 no_keys)) ≡ three
  pub the64th : queue_add 99 (keyboard (replicate 63 97 ++ (0 ∷ [])) 63) ≡ keyboard (replicate 63 97 ++ (99 ∷ [])) 64
  pub the65th : queue_add 99 full ≡ full
  pub oldest : queue_take 2 three (1 ∷ 2 ∷ []) ≡ outcome 2 (keyboard (99 ∷ replicate 63 0) 1) (97 ∷ 98 ∷ [])
  -- what is behind the keys in the lent part stays
  pub behind : queue_take 1 three (1 ∷ 2 ∷ []) ≡ outcome 1 (keyboard (98 ∷ 99 ∷ replicate 62 0) 2) (97 ∷ 2 ∷ [])
  pub more : queue_take 4 three (1 ∷ 2 ∷ 3 ∷ 4 ∷ []) ≡ outcome 3 no_keys (97 ∷ 98 ∷ 99 ∷ 4 ∷ [])
  pub none : queue_take 0 three (1 ∷ 2 ∷ []) ≡ outcome 0 three (1 ∷ 2 ∷ [])
  pub no_room : queue_take 2 three (1 ∷ []) ≡ outcome 1 (keyboard (98 ∷ 99 ∷ replicate 62 0) 2) (97 ∷ [])
  pub empty : queue_take 2 no_keys (1 ∷ 2 ∷ []) ≡ outcome 0 no_keys (1 ∷ 2 ∷ [])
  pub from_full : queue_take 1 full (1 ∷ []) ≡ outcome 1 (keyboard (replicate 63 98 ++ (0 ∷ [])) 63) (97 ∷ [])
  -- a struct whose count says more than it has room for holds 64 keys and takes none in
  pub over64 : queue_add 99 (keyboard (replicate 64 97) 70) ≡ keyboard (replicate 64 97) 70
  pub take_over64 : queue_take 1 (keyboard (replicate 64 97) 70) (1 ∷ []) ≡ outcome 1 (keyboard (replicate 63 97 ++ (0 ∷ [])) 63) (97 ∷ [])

pub keys : Keys
unfolding no_keys held queue queue_add takes queue_drop take_out queue_take over write_at
keys =
    record {
      first = refl;
      in_order = refl;
      the64th = refl;
      the65th = refl;
      oldest = refl;
      behind = refl;
      more = refl;
      none = refl;
      no_room = refl;
      empty = refl;
      from_full = refl;
      over64 = refl;
      take_over64 = refl;
    }
