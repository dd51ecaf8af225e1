-- A keyboard queue of 64 bytes.
use Rattle.std.specs.Prelude.{cond, List, [], ◌∷◌, ◌++◌, ℕ, ◌+◌, ◌-◌, min, ltb, length, take, drop, replicate}
use Rattle.octets.specs.Lists.{over, write_at}
use Rattle.devices.specs.declared.keyboard.Keyboard.{Keyboard}
use Rattle.devices.specs.declared.keyboard.Taken.{Taken}

-- a queue with no key
unfoldable pub no_keys : Keyboard
no_keys = record { keys = replicate 64 0; held = 0 }

-- how many keys a struct holds: no more than there is room for, whatever its count says
unfoldable pub held : Keyboard → ℕ
held k = min k.held 64

-- the keys that wait, the oldest first
unfoldable pub queue : Keyboard → List ℕ
queue k = take (held k) k.keys

-- "The keyboard queue takes a key in at the back, or drops it when 64 are held"
unfoldable pub queue_add : ℕ → Keyboard → Keyboard
queue_add key k = cond (ltb k.held 64) (record { keys = write_at k.held (key ∷ []) k.keys; held = k.held + 1 }) k

-- "Next-read takes the oldest min(request, held) keys"; no more than the lent part has room for
unfoldable pub takes : ℕ → ℕ → Keyboard → ℕ
takes request room k = min (min request room) (held k)

-- the queue without its n oldest keys: the others move to the front, what falls free is cleared
unfoldable pub queue_drop : ℕ → Keyboard → Keyboard
queue_drop n k = record { keys = drop n k.keys ++ replicate n 0; held = held k - n }

-- what taking keys out gives: how many were taken, the queue and the lent part afterwards
pub record Took : Type 0 where
  pub count : ℕ
  pub keyboard : Keyboard
  pub buffer : List ℕ

abbrev pub took : Taken → List ℕ → Took
took t buffer = record { count = t.count; keyboard = t.keyboard; buffer = buffer }

-- the n oldest keys go over the start of the lent part, whose bytes behind them stay
unfoldable pub take_out : ℕ → Keyboard → List ℕ → Took
take_out n k buffer = record { count = n; keyboard = queue_drop n k; buffer = over (take n (queue k)) buffer }

unfoldable pub queue_take : ℕ → Keyboard → List ℕ → Took
queue_take request k buffer = take_out (takes request (length buffer) k) k buffer
