-- The record view: what one record of a password file holds. Nothing else, here or above, knows a record's kind or where in a record a thing stands.
-- Document 01, "Store image and password file": "Kind 2: 32 bytes of digest, then a name of 1 to 32 bytes, none zero."
use Rattle.std.specs.Prelude.{Bool, true, not, ◌&&◌, List, [], ◌∷◌, ℕ, ◌+◌, eqb, leb, length, drop, replicate}
use Rattle.octets.specs.Lists.{part, over, on_part}
use Rattle.rows.specs.Records.{kind, whole}

-- behind the header of six bytes
abbrev pub digest_start : ℕ
digest_start = 6

abbrev pub digest_length : ℕ
digest_length = 32

-- the digest in force
unfoldable pub digest_of : List ℕ → List ℕ
digest_of c = part digest_start digest_length c

unfoldable pub name : List ℕ → List ℕ
name c = drop (digest_start + digest_length) c

unfoldable pub no_zero : List ℕ → Bool
no_zero [] = true
no_zero (b ∷ l) = not (eqb b 0) && no_zero l

-- "32 bytes of digest, then a name of 1 to 32 bytes": as long as its header says, with room for both. The name begins behind the whole digest, so the payload
-- has 33 to 64 bytes
unfoldable pub shaped : List ℕ → Bool
shaped c = whole c && (leb 1 (length (name c)) && leb (length (name c)) 32)

-- "Kind 2", and no byte of the name zero
unfoldable pub obeys : List ℕ → Bool
obeys c = shaped c && (eqb (kind c) 2 && no_zero (name c))

-- what a change of the password writes: `new` over the digest, as much of it as there is
unfoldable pub changed : List ℕ → List ℕ → List ℕ
changed new c = on_part digest_start digest_length (over new) c

unfoldable pub zeros : List ℕ → List ℕ
zeros l = replicate (length l) 0

-- the digest's bytes 0, all others as they were
unfoldable pub blanked : List ℕ → List ℕ
blanked c = on_part digest_start digest_length zeros c
