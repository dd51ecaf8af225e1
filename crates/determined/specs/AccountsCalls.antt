-- Crate accounts: two results that one contract allows are equal. A theorem for each public function, in the order of the source.
use Rattle.std.specs.Prelude.{Bool, List, ◌≡◌, refl, ℕ}
use Rattle.accounts.specs.declared.Attempt.{Attempt}
use Rattle.state.specs.declared.LoginRecord.{LoginRecord}
use Rattle.accounts.specs.Users.{readable as Users·readable}
use Rattle.accounts.specs.Login.{login as Login·login}
use Rattle.checks.specs.Told.{told}
use Rattle.accounts.specs.Who.{who as Who·who}
use Rattle.accounts.specs.SetPassword.{Changed, changed, set_password}
use Rattle.determined.specs.Determined.{AtMostOne, plain, by_reading, by_told}

-- a number, the file on the store and the table in memory
by_changed : (z : Changed) → AtMostOne (λ (x : ℕ × List ℕ × List ℕ). changed x.0 x.1 x.2 ≡ z)
by_changed = by_reading _ (λ (z : Changed). (z.number, z.file, z.table)) (λ x. refl)

pub readable : (held : LoginRecord) (table : List ℕ) → AtMostOne (λ (x : Bool). x ≡ Users·readable held table)
readable held table = plain _

pub login : (n : ℕ) (held : LoginRecord) (table name password : List ℕ) → AtMostOne (λ (x : Attempt). x ≡ Login·login n held table name password)
login n held table name password = plain _

pub who : (n : ℕ) (held : LoginRecord) (table buffer : List ℕ) → AtMostOne (λ (x : ℕ × List ℕ). told x.0 x.1 ≡ Who·who n held table buffer)
who n held table buffer = by_told _

pub set_password_lem : (n : ℕ) (held : LoginRecord) (password : List ℕ) (taken : ℕ) (file table : List ℕ)
    → AtMostOne (λ (x : ℕ × List ℕ × List ℕ). changed x.0 x.1 x.2 ≡ set_password n held password taken file table)
set_password_lem n held password taken file table = by_changed _
