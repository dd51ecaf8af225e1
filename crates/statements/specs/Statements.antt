-- The three statements of the set-up text,
--   CODE[partition] = path;   DSEG[index] = { path, partition, permission+ };   MSEG[index] = { size, partition, permission+ };
use Rattle.std.specs.Prelude.{cond, List, [], ◌∷◌, ℕ, zero, suc, ◌+◌, ◌*◌, ◌%◌, eqb, length, Option, Some, None}
use Rattle.text.specs.Tokens.{word_at, number_at, size_at, path_at}
use Rattle.statements.specs.declared.Permission.{Permission}
use Rattle.statements.specs.declared.Permission.TheVariants.{NoAccess, ReadOnly, ReadWrite}
use Rattle.statements.specs.declared.Permissions.{Permissions}
use Rattle.statements.specs.declared.Grants.{Grants}
use Rattle.statements.specs.declared.Kind.{Kind}
use Rattle.statements.specs.declared.Kind.TheVariants as kind
use Rattle.statements.specs.declared.Statement.{Statement}
use Rattle.statements.specs.declared.Statement.TheVariants.{Code, Dseg, Mseg, Malformed}

-- what goes on behind a token, or `bad` where the token is not there
abbrev pub on_token : {A B : Type 0} → A → Option B → (B → A) → A
on_token bad (Some token) k = k token
on_token bad None k = bad

infixl 10 ◌>>=◌
abbrev pub ◌>>=◌ : {A B : Type 0} → Option A → (A → Option B) → Option B
token >>= k = on_token None token k

-- a mark of one byte
abbrev pub byte : ℕ → List ℕ → ℕ → Option ℕ
byte b text at = word_at (b ∷ []) text at

-- `[number] =`
unfoldable pub head_at : List ℕ → ℕ → Option (ℕ × ℕ)
head_at text at = do
  a ← byte 91 text at
  (n, b) ← number_at text a
  c ← byte 93 text b
  d ← byte 61 text c
  Some (n, d)

-- "One permission (RO, RW, NA)"
unfoldable pub permission_at : List ℕ → ℕ → Option (Permission × ℕ)
permission_at text at =
    on_token (on_token (on_token None
    (word_at (78 ∷ 65 ∷ []) text at) λ next. Some (NoAccess, next))
    (word_at (82 ∷ 79 ∷ []) text at) λ next. Some (ReadOnly, next))
    (word_at (82 ∷ 87 ∷ []) text at) λ next. Some (ReadWrite, next)

-- 0 NA, 1 RO, 2 RW
abbrev pub number_of : Permission → ℕ
number_of NoAccess = 0
number_of ReadOnly = 1
number_of ReadWrite = 2

-- one permission more in the number that holds the last eight, two bits for each, the last one lowest
unfoldable pub packed : ℕ → Permission → ℕ
packed bits permission = (bits * 4 + number_of permission) % 65536

-- so many permissions, and the number that holds the last eight
abbrev pub row_of : ℕ → ℕ → Permissions
row_of count bits = record { count = count; bits = bits }

-- permissions, each behind a comma, after `count` others; at most n of them
unfoldable pub permissions_from : ℕ → List ℕ → ℕ → ℕ → ℕ → Option (Permissions × ℕ)
permissions_from zero text at count bits = None
permissions_from (suc n) text at count bits =
    on_token (Some (row_of count bits, at)) (byte 44 text at) λ a.
    on_token None (permission_at text a) λ (permission, b).
    permissions_from n text b (count + 1) (packed bits permission)

-- all of them: each takes three bytes at least, so there are fewer than the text has bytes
unfoldable pub permissions_at : List ℕ → ℕ → Option (Permissions × ℕ)
permissions_at text at = permissions_from (length text) text at 0 0

abbrev pub grants_of : ℕ → Permissions → Grants
grants_of host permissions = record { host = host; permissions = permissions }

-- `, partition, permission+ };`
unfoldable pub tail_at : List ℕ → ℕ → Option (Grants × ℕ)
tail_at text at = do
  a ← byte 44 text at
  (host, b) ← number_at text a
  (permissions, c) ← permissions_at text b
  cond (eqb permissions.count 0) None do
    d ← byte 125 text c
    e ← byte 59 text d
    Some (grants_of host permissions, e)

-- behind the word CODE
unfoldable pub code_at : List ℕ → ℕ → Statement
code_at text at =
    on_token Malformed (head_at text at) λ (partition, a).
    on_token Malformed (path_at text a) λ (path, b).
    on_token Malformed (byte 59 text b) λ c.
    Code partition path c

-- behind the word DSEG
unfoldable pub dseg_at : List ℕ → ℕ → Statement
dseg_at text at =
    on_token Malformed (head_at text at) λ (index, a).
    on_token Malformed (byte 123 text a) λ b.
    on_token Malformed (path_at text b) λ (path, c).
    on_token Malformed (tail_at text c) λ (grants, d).
    Dseg index path grants d

-- behind the word MSEG
unfoldable pub mseg_at : List ℕ → ℕ → Statement
mseg_at text at =
    on_token Malformed (head_at text at) λ (index, a).
    on_token Malformed (byte 123 text a) λ b.
    on_token Malformed (size_at text b) λ (size, c).
    on_token Malformed (tail_at text c) λ (grants, d).
    Mseg index size grants d

-- the statement whose first token is the next one
unfoldable pub statement_at : List ℕ → ℕ → Statement
statement_at text at =
    on_token (on_token (on_token Malformed
    (word_at (77 ∷ 83 ∷ 69 ∷ 71 ∷ []) text at) λ a. mseg_at text a)
    (word_at (68 ∷ 83 ∷ 69 ∷ 71 ∷ []) text at) λ a. dseg_at text a)
    (word_at (67 ∷ 79 ∷ 68 ∷ 69 ∷ []) text at) λ a. code_at text a

-- which statement the next token begins, and the place behind that token
unfoldable pub kind_at : List ℕ → ℕ → Kind
kind_at text at =
    on_token (on_token (on_token kind.Other
    (word_at (77 ∷ 83 ∷ 69 ∷ 71 ∷ []) text at) λ a. kind.Mseg a)
    (word_at (68 ∷ 83 ∷ 69 ∷ 71 ∷ []) text at) λ a. kind.Dseg a)
    (word_at (67 ∷ 79 ∷ 68 ∷ 69 ∷ []) text at) λ a. kind.Code a

-- the statement of a kind
unfoldable pub statement_of : List ℕ → Kind → Statement
statement_of text (kind.Code a) = code_at text a
statement_of text (kind.Dseg a) = dseg_at text a
statement_of text (kind.Mseg a) = mseg_at text a
statement_of text kind.Other = Malformed
