-- Who: "Who needs a buffer of 33 (BAD_BUFFER); name and a zero, or one zero."
use Rattle.std.specs.Prelude.{List, [], ◌∷◌, ◌++◌, ℕ, ltb, length}
use Rattle.checks.specs.Checks.{Check, ◌when◌, after}
use Rattle.checks.specs.Settle.{settle}
use Rattle.checks.specs.Told.{Told, told}
use Rattle.octets.specs.Lists.{over}
use Rattle.state.specs.declared.LoginRecord.{LoginRecord}
use Rattle.accounts.specs.Users.{user_name}

unfoldable pub who_checks : List ℕ → List Check
who_checks buffer = (214 when ltb (length buffer) 33) ∷ []

-- who, where n is the number of the common checks; "a lent buffer keeps the bytes behind what was moved"
unfoldable pub who : ℕ → LoginRecord → List ℕ → List ℕ → Told
who n r table buffer =
    let m = after n (who_checks buffer) in
    settle m (told 0 (over (user_name r.user table ++ (0 ∷ [])) buffer)) (told m buffer)
