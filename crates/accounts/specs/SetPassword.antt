-- Set-password: "with the store's number: NO_LOGIN, INVALID_STRING; then the new digest goes into the file image, which is written from its first
-- byte as a flush is. Memory then holds what the store holds, also after WRITE_FAILURE."
use Rattle.std.specs.Prelude.{cond, not, List, [], ◌∷◌, ℕ, ltb, length, take}
use Rattle.checks.specs.Checks.{Check, ◌when◌, after}
use Rattle.checks.specs.Settle.{settle}
use Rattle.octets.specs.Lists.{over}
use Rattle.sha256.specs.Digest.{digest}
use Rattle.passwords.specs.PasswordFile.{with_digest}
use Rattle.state.specs.declared.LoginRecord.{LoginRecord}
use Rattle.accounts.specs.Strings.{is_string, string_of}
use Rattle.accounts.specs.Users.{is_user, place_of}

-- the answer's number, and the password file on the store and the password table in memory afterwards
pub record Changed : Type 0 where
  pub number : ℕ
  pub file : List ℕ
  pub table : List ℕ

abbrev pub changed : ℕ → List ℕ → List ℕ → Changed
changed number file table = record { number = number; file = file; table = table }

-- "the new digest goes into the file image": it is built from the table in memory
unfoldable pub file_image : ℕ → List ℕ → List ℕ → List ℕ
file_image i pw table = with_digest i (digest pw) table

-- "which is written from its first byte as a flush is": the first bytes of the image, as many as the store takes, over the file
unfoldable pub on_store : ℕ → List ℕ → List ℕ → List ℕ
on_store taken image file = over (take taken image) file

-- "Memory then holds what the store holds": the file, over the image that was built in memory
unfoldable pub in_memory : List ℕ → List ℕ → List ℕ
in_memory stored image = over stored image

-- Flush: "If the number is below the size, .. the answer is WRITE_FAILURE"
unfoldable pub written : ℕ → List ℕ → ℕ
written taken file = cond (ltb taken (length file)) 203 0

-- "NO_LOGIN, INVALID_STRING"
unfoldable pub set_checks : LoginRecord → List ℕ → List Check
set_checks r pw = (303 when not (is_user r.user)) ∷ (302 when not (is_string pw)) ∷ []

-- a set-password, where n is the number of the common checks
unfoldable pub set_password : ℕ → LoginRecord → List ℕ → ℕ → List ℕ → List ℕ → Changed
set_password n r pw taken file table =
    let m = after n (set_checks r pw) in
    let image = file_image (place_of r.user) (string_of pw) table in
    let stored = on_store taken image file in
    settle m (changed (written taken file) stored (in_memory stored image)) (changed m file table)
