-- Points about logins and passwords, computed from the definitions. The tables are those of `passwords_examples`: "ab" with a digest of sevens, then "c" with a
-- digest of eights. A digest is computed only where an answer hangs on it.
use Rattle.std.specs.Prelude.{true, false, List, [], ◌∷◌, ◌++◌, ◌≡◌, refl, ℕ, take, replicate}
use Rattle.octets.specs.Search.{index_of, index_after}
use Rattle.checks.specs.Checks.{refused, after}
use Rattle.checks.specs.Settle.{settle}
use Rattle.checks.specs.Told.{told}
use Rattle.sha256.specs.Words.{bytes_of}
use Rattle.sha256.specs.Padding.{zeros, length_field, padded, blocks}
use Rattle.sha256.specs.Padding as padding
use Rattle.sha256_examples.specs.Examples.{abc}
use Rattle.state.specs.Empty.{nobody}
use Rattle.passwords_examples.specs.Examples.{entry, account, two, opened}
use Rattle.accounts.specs.Strings.{ending, is_string, string_of}
use Rattle.accounts.specs.Users.{is_user, place_of, placed, readable, user_name}
use Rattle.accounts.specs.Login.{attempt, user, tried, login_checks, login}
use Rattle.accounts.specs.Who.{who_checks, who}
use Rattle.accounts.specs.SetPassword.{changed, file_image, on_store, in_memory, written, set_checks, set_password}

-- ---- what is handed in

-- n bytes and a zero
unfoldable pub text : ℕ → List ℕ
text n = replicate n 97 ++ (0 ∷ [])

-- "ab", "x" and "abc", each with its zero
unfoldable pub ab : List ℕ
ab = 97 ∷ 98 ∷ 0 ∷ []

unfoldable pub x : List ℕ
x = 120 ∷ 0 ∷ []

unfoldable pub abc_text : List ℕ
abc_text = 0x61 ∷ 0x62 ∷ 0x63 ∷ 0 ∷ []

-- the digest of "abc"
unfoldable pub abc_digest : List ℕ
abc_digest =
    0xba ∷ 0x78 ∷ 0x16 ∷ 0xbf ∷ 0x8f ∷ 0x01 ∷ 0xcf ∷ 0xea ∷ 0x41 ∷ 0x41 ∷ 0x40 ∷ 0xde ∷ 0x5d ∷ 0xae ∷ 0x22 ∷ 0x23 ∷
    0xb0 ∷ 0x03 ∷ 0x61 ∷ 0xa3 ∷ 0x96 ∷ 0x17 ∷ 0x7a ∷ 0x9c ∷ 0xb4 ∷ 0x10 ∷ 0xff ∷ 0x61 ∷ 0xf2 ∷ 0x00 ∷ 0x15 ∷ 0xad ∷ []

-- "ab" with the password "abc"
unfoldable pub renewed : List ℕ
renewed = entry 2 (abc_digest ++ (97 ∷ 98 ∷ [])) ++ account 8 (99 ∷ [])

-- a name that opens, on an `unfolding` line, all that these calls are defined by, save the digest
unfoldable pub calls : ℕ
unfolding opened index_of index_after refused after settle bytes_of zeros length_field padding.ending padded blocks ending is_string string_of is_user place_of placed readable user_name tried login_checks login who_checks who file_image on_store in_memory written set_checks set_password text ab x abc_text abc_digest renewed
calls = 0

-- ---- strings

-- "Password of 32 bytes and a zero: allowed; 33: 302"
pub strings : is_string (text 32) ∷ is_string (text 33) ∷ is_string (0 ∷ []) ∷ is_string (replicate 33 97) ∷ is_string [] ∷ [] ≡ true ∷ false ∷ true ∷ false ∷ false ∷ []
unfolding calls
strings = refl

-- ---- login

-- with a password of 32 bytes the name is looked up, and there is no such name; with one of 33 it is 302 and not 300
pub unknown_name : login 0 nobody two x (text 32) ∷ login 0 nobody two x (text 33) ∷ [] ≡ attempt 300 2 nobody ∷ attempt 302 0 nobody ∷ []
unfolding calls
unknown_name = refl

-- "Empty name: 300": all records were read, and no block
pub empty_name : login 0 nobody two (text 0) ab ≡ attempt 300 2 nobody
unfolding calls
empty_name = refl

-- "Logged in and bad name at once: 301"
pub busy : login 0 (user 1) two (text 33) ab ≡ attempt 301 0 (user 1)
unfolding calls
busy = refl

pub both-bad : login 0 nobody two (text 33) (text 33) ≡ attempt 302 0 nobody
unfolding calls
both-bad = refl

-- a number of the common checks goes first
pub stopped : login 212 (user 1) two (text 33) ab ≡ attempt 212 0 (user 1)
unfolding calls
stopped = refl

-- the right password and the wrong one: one record and one block
pub right_password : login 0 nobody renewed ab abc_text ≡ attempt 0 2 (user 0)
unfolding calls
right_password = rw abc

pub wrong_password : login 0 nobody two ab abc_text ≡ attempt 300 2 nobody
unfolding calls
wrong_password = rw abc

-- ---- the table test

pub tables : readable nobody two ∷ readable (user 1) two ∷ readable (user 2) two ∷ readable nobody (take 78 two) ∷ [] ≡ true ∷ true ∷ false ∷ false ∷ []
unfolding calls
tables = refl

-- ---- who

-- "name and a zero, or one zero"; the bytes behind stay
pub who-is : who 0 (user 0) two (replicate 33 9) ∷ who 0 nobody two (replicate 34 9) ∷ []
    ≡ told 0 (97 ∷ 98 ∷ 0 ∷ replicate 30 9) ∷ told 0 (0 ∷ replicate 33 9) ∷ []
unfolding calls
who-is = refl

pub narrow : who 0 (user 0) two (replicate 32 9) ≡ told 214 (replicate 32 9)
unfolding calls
narrow = refl

-- ---- set-password

-- "NO_LOGIN, INVALID_STRING"
pub barred : set_password 0 nobody (text 33) 79 two two ∷ set_password 0 (user 0) (text 33) 79 two two ∷ [] ≡ changed 303 two two ∷ changed 302 two two ∷ []
unfolding calls
barred = refl

-- the store takes the whole file of 79 bytes
pub stored : set_password 0 (user 0) abc_text 79 two two ≡ changed 0 renewed renewed
unfolding calls
stored = rw abc

-- "Store takes one byte less than the file: 203", here with the new digest complete
pub one_less : set_password 0 (user 0) abc_text 78 two two ≡ changed 203 renewed renewed
unfolding calls
one_less = rw abc

-- the store takes 8 bytes, two of them of the digest: memory holds what the store holds
pub broken_off : set_password 0 (user 0) abc_text 8 two two
    ≡ (let half = entry 2 (0xba ∷ 0x78 ∷ replicate 30 7 ++ (97 ∷ 98 ∷ [])) ++ account 8 (99 ∷ []) in changed 203 half half)
unfolding calls
broken_off = rw abc

-- nothing of the digest of "c" stands in the first 46 bytes, whatever the password
pub none-taken : (set_password 0 (user 1) (text 32) 46 two two).file ≡ two
unfolding calls
none-taken = refl
