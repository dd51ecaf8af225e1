-- What the calls of this crate keep: a refusal keeps everything; a password file on the store and its table in memory stay the same rows; a new password is not
-- seen behind the mask of the digests; a table that can be read stays one.
use Rattle.std.specs.Prelude.{Bool, true, false, List, [], ◌∷◌, ◌++◌, ◌≡◌, refl, ℕ, ◌≤◌, ◌<◌, take, length, Option, Some, None}
use Rattle.std.proofs.Common.{sym, ap, ◌∙◌, arith, lt-ltb, take_all}
use Rattle.checks.specs.Checks.{after}
use Rattle.checks.specs.Settle.{by_settle, settle_done, settle-refused}
use Rattle.octets.specs.Lists.{over, part}
use Rattle.octets.specs.Same.{same_bytes}
use Rattle.octets.specs.WriteLaws.{length_over, over-same}
use Rattle.sha256.specs.Digest.{digest}
use Rattle.rows.specs.Records.{chunks}
use Rattle.state.specs.declared.Login.{Login}
use Rattle.state.specs.declared.Login.TheVariants.{Nobody, User}
use Rattle.state.specs.declared.LoginRecord.{LoginRecord}
use Rattle.passwords.specs.declared.Lookup.{Lookup}
use Rattle.passwords.specs.declared.Entry.{Entry}
use Rattle.passwords.specs.Account.{digest_length}
use Rattle.passwords.specs.AccountLaws.{both}
use Rattle.passwords.specs.PasswordFile.{sound, count, find, mask_digests}
use Rattle.passwords.specs.SameLaws.{SameUsers, same_refl, users-length, users-sound, users-count}
use Rattle.passwords.specs.ChangeLaws.{changed_users, broken_users}
use Rattle.passwords.specs.MaskLaws.{mask-broken, mask-name_at}
use Rattle.passwords.specs.FoundLaws.{found}
use Rattle.accounts.specs.declared.Attempt.{Attempt}
use Rattle.accounts.specs.Strings.{string_of}
use Rattle.accounts.specs.Users.{place_of, placed, readable, user_name}
use Rattle.accounts.specs.Login.{attempt, user, tried_entry, tried, login_checks, login}
use Rattle.checks.specs.Told.{Told, told}
use Rattle.accounts.specs.Who.{who_checks, who}
use Rattle.accounts.specs.SetPassword.{Changed, changed, file_image, on_store, in_memory, set_checks, set_password}

-- ---- refusals

pub login-refused : (n : ℕ) (r : LoginRecord) (table name pw : List ℕ) → (after n (login_checks r name pw) ≡ 0 → ⊥)
    → login n r table name pw ≡ attempt (after n (login_checks r name pw)) 0 r
unfolding login
login-refused n r table name pw h = settle-refused _ _ _ h

pub who-refused : (n : ℕ) (r : LoginRecord) (table buffer : List ℕ) → (after n (who_checks buffer) ≡ 0 → ⊥)
    → who n r table buffer ≡ told (after n (who_checks buffer)) buffer
unfolding who
who-refused n r table buffer h = settle-refused _ _ _ h

pub set-refused : (n : ℕ) (r : LoginRecord) (pw : List ℕ) (taken : ℕ) (file table : List ℕ) → (after n (set_checks r pw) ≡ 0 → ⊥)
    → set_password n r pw taken file table ≡ changed (after n (set_checks r pw)) file table
unfolding set_password
set-refused n r pw taken file table h = settle-refused _ _ _ h

-- ---- login

-- who tries and fails, for whatever reason, changes nothing
entry-keeps : (r : LoginRecord) (table pw : List ℕ) (total : ℕ) (at : Option Entry) → ((tried_entry r table pw total at).number ≡ 0 → ⊥)
    → (tried_entry r table pw total at).login ≡ r
entry-keeps r table pw total None h = refl
entry-keeps r table pw total (Some a) h = go (same_bytes (digest pw) (part a.digest digest_length table)) refl
  where
    go : (t : Bool) → same_bytes (digest pw) (part a.digest digest_length table) ≡ t → (tried_entry r table pw total (Some a)).login ≡ r
    go true e = absurd (h (rw e))
    go false e = rw e

tried-keeps : (r : LoginRecord) (table pw : List ℕ) (at : Lookup) → ((tried r table pw at).number ≡ 0 → ⊥) → (tried r table pw at).login ≡ r
unfolding tried
tried-keeps r table pw at = entry-keeps r table pw at.count at.entry

pub login-keeps : (n : ℕ) (r : LoginRecord) (table name pw : List ℕ) → ((login n r table name pw).number ≡ 0 → ⊥) → (login n r table name pw).login ≡ r
unfolding login
login-keeps n r table name pw =
    by_settle (λ (x : Attempt). (x.number ≡ 0 → ⊥) → x.login ≡ r) (after n (login_checks r name pw))
    (λ e. tried-keeps r table (string_of pw) (find (string_of name) table))
    (λ e h. refl)

-- a table that can be read can be read by whoever logs in
user-readable : (r : LoginRecord) (table : List ℕ) (i : ℕ) → i < count table → readable r table ≡ true → readable (user i) table ≡ true
unfolding readable placed
user-readable r table i low h =
    let can = (both (sound table) (placed r.user (count table)) h).0 in
    rw (can, lt-ltb i (count table) low)

entry-readable : (r : LoginRecord) (table name pw : List ℕ) (total : ℕ) (at : Option Entry) → find name table ≡ record { entry = at; count = total }
    → readable r table ≡ true → readable (tried_entry r table pw total at).login table ≡ true
entry-readable r table name pw total None f h = h
entry-readable r table name pw total (Some a) f h = go (same_bytes (digest pw) (part a.digest digest_length table)) refl
  where
    go : (t : Bool) → same_bytes (digest pw) (part a.digest digest_length table) ≡ t → readable (tried_entry r table pw total (Some a)).login table ≡ true
    go true e = rw e (user-readable r table a.number (found name table a.number a.digest total f).is_record h)
    go false e = rw e h

tried-readable : (r : LoginRecord) (table name pw : List ℕ) (at : Lookup) → find name table ≡ at → readable r table ≡ true
    → readable (tried r table pw at).login table ≡ true
unfolding tried
tried-readable r table name pw at = entry-readable r table name pw at.count at.entry

pub login-readable : (n : ℕ) (r : LoginRecord) (table name pw : List ℕ) → readable r table ≡ true → readable (login n r table name pw).login table ≡ true
unfolding login
login-readable n r table name pw h =
    by_settle (λ (x : Attempt). readable x.login table ≡ true) (after n (login_checks r name pw))
    (λ e. tried-readable r table (string_of name) (string_of pw) (find (string_of name) table) refl h)
    (λ e. h)

-- ---- who

pub who-length : (n : ℕ) (r : LoginRecord) (table buffer : List ℕ) → length (who n r table buffer).lent ≡ length buffer
unfolding who
who-length n r table buffer =
    by_settle (λ (x : Told). length x.lent ≡ length buffer) (after n (who_checks buffer))
    (λ e. length_over (user_name r.user table ++ (0 ∷ [])) buffer)
    (λ e. refl)

-- no digest is seen in it
name_masked : (l : Login) (table : List ℕ) → user_name l (mask_digests table) ≡ user_name l table
unfolding user_name
name_masked Nobody table = refl
name_masked (User i) table = mask-name_at i table

pub who_masked : (n : ℕ) (r : LoginRecord) (table buffer : List ℕ) → who n r (mask_digests table) buffer ≡ who n r table buffer
unfolding who
who_masked n r table buffer = rw (name_masked r.user table)

-- ---- set-password

image-length : (i : ℕ) (pw table : List ℕ) → length (file_image i pw table) ≡ length table
unfolding file_image
image-length i pw table = sym (users-length (changed_users i (digest pw) table))

stored-length : (taken : ℕ) (image file : List ℕ) → length (on_store taken image file) ≡ length file
unfolding on_store
stored-length taken image file = length_over (take taken image) file

-- "Memory then holds what the store holds": all of it, since both are as long
pub memory_holds : (taken i : ℕ) (pw file table : List ℕ) → length file ≡ length table
    → in_memory (on_store taken (file_image i pw table) file) (file_image i pw table) ≡ on_store taken (file_image i pw table) file
unfolding in_memory
memory_holds taken i pw file table e =
    over-same (on_store taken (file_image i pw table) file) (file_image i pw table)
    (stored-length taken (file_image i pw table) file ∙ e ∙ sym (image-length i pw table))

-- a store that takes the whole file has the whole image
pub store-whole : (taken i : ℕ) (pw file table : List ℕ) → length file ≡ length table → length file ≤ taken
    → on_store taken (file_image i pw table) file ≡ file_image i pw table
unfolding on_store
store-whole taken i pw file table e h =
    let long = image-length i pw table in
    rw (take_all taken (file_image i pw table) (omega arith)) (over-same (file_image i pw table) file (long ∙ sym e))

module _ (n : ℕ) (r : LoginRecord) (pw : List ℕ) (taken : ℕ) (file table : List ℕ) where
  -- the store has the first bytes of the image, for success and WRITE_FAILURE alike
  pub set_done : after n (set_checks r pw) ≡ 0
      → (set_password n r pw taken file table).file ≡ over (take taken (file_image (place_of r.user) (string_of pw) table)) file
  unfolding set_password on_store
  set_done e = ap (λ (x : Changed). x.file) (settle_done (after n (set_checks r pw)) _ _ e)

  pub file-length : length (set_password n r pw taken file table).file ≡ length file
  unfolding set_password
  file-length =
      by_settle (λ (x : Changed). length x.file ≡ length file) (after n (set_checks r pw))
      (λ e. stored-length taken (file_image (place_of r.user) (string_of pw) table) file)
      (λ e. refl)

  pub table-length : length (set_password n r pw taken file table).table ≡ length table
  unfolding set_password in_memory
  table-length =
      by_settle (λ (x : Changed). length x.table ≡ length table) (after n (set_checks r pw))
      (λ e. length_over (on_store taken (file_image (place_of r.user) (string_of pw) table) file) (file_image (place_of r.user) (string_of pw) table) ∙ image-length (place_of r.user) (string_of pw) table)
      (λ e. refl)

  -- the file on the store and the table in memory are the same again
  pub kept_together : file ≡ table → (set_password n r pw taken file table).file ≡ (set_password n r pw taken file table).table
  unfolding set_password
  kept_together same =
      by_settle (λ (x : Changed). x.file ≡ x.table) (after n (set_checks r pw))
      (λ e. sym (memory_holds taken (place_of r.user) (string_of pw) file table (ap length same)))
      (λ e. same)

-- of a file and a table that are the same: the walk, the names, `find` and its count stay, and so does all that is seen behind the mask
module _ (n : ℕ) (r : LoginRecord) (pw : List ℕ) (taken : ℕ) (file : List ℕ) where
  pub users-kept : SameUsers file (set_password n r pw taken file file).file
  unfolding set_password on_store file_image
  users-kept =
      by_settle (λ (x : Changed). SameUsers file x.file) (after n (set_checks r pw))
      (λ e. broken_users taken (place_of r.user) (digest (string_of pw)) file)
      (λ e. record { accounts = same_refl (chunks file) })

  pub mask-kept : mask_digests (set_password n r pw taken file file).file ≡ mask_digests file
  unfolding set_password on_store file_image
  mask-kept =
      by_settle (λ (x : Changed). mask_digests x.file ≡ mask_digests file) (after n (set_checks r pw))
      (λ e. mask-broken taken (place_of r.user) (digest (string_of pw)) file)
      (λ e. refl)

  -- whoever could read the table can read it
  pub readable-kept : (q : LoginRecord) → readable q (set_password n r pw taken file file).file ≡ readable q file
  unfolding readable
  readable-kept q = rw (users-sound users-kept, users-count users-kept)
