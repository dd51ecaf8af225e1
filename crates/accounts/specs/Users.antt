-- Who is logged in: "a login record that holds either nobody or the place of one user". A place is a record's number in
-- the password table, from 0.
use Rattle.std.specs.Prelude.{Bool, true, false, ◌&&◌, List, [], ℕ, ltb}
use Rattle.state.specs.declared.Login.{Login}
use Rattle.state.specs.declared.Login.TheVariants.{Nobody, User}
use Rattle.state.specs.declared.LoginRecord.{LoginRecord}
use Rattle.passwords.specs.PasswordFile.{sound, count, name_at}

-- someone is logged in
unfoldable pub is_user : Login → Bool
is_user Nobody = false
is_user (User i) = true

-- the user's record; 0 where there is no user
unfoldable pub place_of : Login → ℕ
place_of Nobody = 0
place_of (User i) = i

-- the user's place, if there is a user, is one of so many records
unfoldable pub placed : Login → ℕ → Bool
placed Nobody records = true
placed (User i) records = ltb i records

-- the table test (BAD_STATE: "a place or count, kept in the state or read in a password table, that leads outside its area"): the table can be read,
-- and the user's place is a record of it
unfoldable pub readable : LoginRecord → List ℕ → Bool
readable r table = sound table && placed r.user (count table)

-- the user's name; empty for nobody
unfoldable pub user_name : Login → List ℕ → List ℕ
user_name Nobody table = []
user_name (User i) table = name_at i table
