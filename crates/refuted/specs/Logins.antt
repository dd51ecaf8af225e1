-- What logins and a set-password do in the room, where the digest of "ab" is that of "abc", that of the empty password, or 32 sevens: the published digests decide.
use Rattle.std.specs.Prelude.{List, [], ◌∷◌, ◌≡◌, refl, ℕ}
use Rattle.sha256_examples.specs.Examples.{abc, empty}
use Rattle.state.specs.declared.Login.TheVariants.{Nobody, User}
use Rattle.steps.specs.World.{World, Result, step}
use Rattle.steps.specs.World.Move.{Login, Logout, SetPassword}
use Rattle.refuted.specs.Room.{room, sevens, ab, opened}

-- "abc" and the empty password, each with its zero
unfoldable pub abc_text : List ℕ
abc_text = 0x61 ∷ 0x62 ∷ 0x63 ∷ 0 ∷ []

unfoldable pub empty_text : List ℕ
empty_text = 0 ∷ []

-- their digests
unfoldable pub abc_digest : List ℕ
abc_digest =
    0xba ∷ 0x78 ∷ 0x16 ∷ 0xbf ∷ 0x8f ∷ 0x01 ∷ 0xcf ∷ 0xea ∷ 0x41 ∷ 0x41 ∷ 0x40 ∷ 0xde ∷ 0x5d ∷ 0xae ∷ 0x22 ∷ 0x23 ∷
    0xb0 ∷ 0x03 ∷ 0x61 ∷ 0xa3 ∷ 0x96 ∷ 0x17 ∷ 0x7a ∷ 0x9c ∷ 0xb4 ∷ 0x10 ∷ 0xff ∷ 0x61 ∷ 0xf2 ∷ 0x00 ∷ 0x15 ∷ 0xad ∷ []

unfoldable pub empty_digest : List ℕ
empty_digest =
    0xe3 ∷ 0xb0 ∷ 0xc4 ∷ 0x42 ∷ 0x98 ∷ 0xfc ∷ 0x1c ∷ 0x14 ∷ 0x9a ∷ 0xfb ∷ 0xf4 ∷ 0xc8 ∷ 0x99 ∷ 0x6f ∷ 0xb9 ∷ 0x24 ∷
    0x27 ∷ 0xae ∷ 0x41 ∷ 0xe4 ∷ 0x64 ∷ 0x9b ∷ 0x93 ∷ 0x4c ∷ 0xa4 ∷ 0x95 ∷ 0x99 ∷ 0x1b ∷ 0x78 ∷ 0x52 ∷ 0xb8 ∷ 0x55 ∷ []

-- a name that opens them, and what Room.opened opens
unfoldable pub opened_logins : ℕ
unfolding opened abc_text empty_text abc_digest empty_digest
opened_logins = 0

abbrev pub result_of : ℕ → ℕ → World → Result
result_of number count w = record { number = number; count = count; buffer = []; world = w }

-- the right password: one record and one block
pub abc_right : step (room Nobody abc_digest) (Login 0 ab abc_text) ≡ result_of 0 2 (room (User 0) abc_digest)
unfolding opened_logins
abc_right = rw abc

pub empty_right : step (room Nobody empty_digest) (Login 0 ab empty_text) ≡ result_of 0 2 (room (User 0) empty_digest)
unfolding opened_logins
empty_right = rw empty

-- the wrong one: the same work
pub empty_wrong : step (room Nobody abc_digest) (Login 0 ab empty_text) ≡ result_of 300 2 (room Nobody abc_digest)
unfolding opened_logins
empty_wrong = rw empty

pub abc_wrong : step (room Nobody empty_digest) (Login 0 ab abc_text) ≡ result_of 300 2 (room Nobody empty_digest)
unfolding opened_logins
abc_wrong = rw abc

pub sevens_wrong : step (room Nobody sevens) (Login 0 ab abc_text) ≡ result_of 300 2 (room Nobody sevens)
unfolding opened_logins
sevens_wrong = rw abc

-- a new password, with a store that takes the whole file
pub to-empty : step (room (User 0) abc_digest) (SetPassword 0 empty_text 79) ≡ result_of 0 0 (room (User 0) empty_digest)
unfolding opened_logins
to-empty = rw empty

pub to_abc : step (room (User 0) empty_digest) (SetPassword 0 abc_text 79) ≡ result_of 0 0 (room (User 0) abc_digest)
unfolding opened_logins
to_abc = rw abc

pub out : (digest : List ℕ) → step (room (User 0) digest) (Logout 0) ≡ result_of 0 0 (room Nobody digest)
unfolding opened_logins
out digest = refl
