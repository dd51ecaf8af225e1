-- Demand 3, its first half: "Run two terminals that start alike and receive like events and calls, except for the digests in one active partition's password file
-- and the passwords in that partition's login and set-password calls. Everything is the same in both but that file on the store and in memory, that partition's
-- login record, its answers to login, who and set-password, and the buffer who fills."
use Rattle.std.specs.Prelude.{List, [], ◌∷◌, ◌≡◌, ℕ, false}
use Rattle.steps.specs.World.{Move, Result}
use Rattle.steps.specs.World.Move.{Login, SetPassword}
use Rattle.silence.specs.Mask.{mask, own}

-- ---- one step of both

-- "like events and calls, except for .. the passwords in that partition's login and set-password calls"
pub data Alike (q : ℕ) : Move → Move → Type 0 where
  same : (m : Move) → Alike q m m
  logins : (name password other : List ℕ) → Alike q (Login q name password) (Login q name other)
  changes : (password other : List ℕ) (taken : ℕ) → Alike q (SetPassword q password taken) (SetPassword q other taken)

-- what is the same of what comes of a move m in both: all of the world but what the mask hides, and, unless it is q's own login, who or set-password, the
-- number, the count and the buffer
pub record SeenAlike (q : ℕ) (m : Move) (r s : Result) : Type 0 where
  pub worlds : mask false q r.world ≡ mask false q s.world
  pub number : own q m ≡ false → r.number ≡ s.number
  pub count : own q m ≡ false → r.count ≡ s.count
  pub buffer : own q m ≡ false → r.buffer ≡ s.buffer

-- ---- two runs

pub data AllAlike (q : ℕ) : List Move → List Move → Type 0 where
  none : AllAlike q [] []
  more : {m n : Move} {ms ns : List Move} → Alike q m n → AllAlike q ms ns → AllAlike q (m ∷ ms) (n ∷ ns)

pub data AllSeenAlike (q : ℕ) : List Move → List Result → List Result → Type 0 where
  none : AllSeenAlike q [] [] []
  more : {m : Move} {ms : List Move} {r s : Result} {rs ss : List Result} → SeenAlike q m r s → AllSeenAlike q ms rs ss → AllSeenAlike q (m ∷ ms) (r ∷ rs) (s ∷ ss)
