-- What every statement that is read keeps to: it ends inside the text and behind its first token, its path lies inside the text and has
-- 2 to 63 bytes, its numbers are those that a text can spell.
use Rattle.std.specs.Prelude.{Bool, true, false, cond, List, [], ◌∷◌, ◌≡◌, refl, ℕ, zero, suc, ◌+◌, ◌^◌, ◌≤◌, ◌<◌, eqb, length, Option, Some, None}
use Rattle.std.proofs.Common.{arith}
use Rattle.std.proofs.lemmas.Bool.{eqb-false}
use Rattle.text.specs.Tokens.{word_at, number_at, size_at, path_at}
use Rattle.octets.specs.declared.span.Span.{Span}
use Rattle.text.specs.Sound.{word_read, number_read, size-read, path-read}
use Rattle.statements.specs.declared.Permission.{Permission}
use Rattle.statements.specs.declared.Permission.TheVariants.{NoAccess, ReadOnly, ReadWrite}
use Rattle.statements.specs.declared.Permissions.{Permissions}
use Rattle.statements.specs.declared.Grants.{Grants}
use Rattle.statements.specs.declared.Statement.{Statement}
use Rattle.statements.specs.declared.Statement.TheVariants.{Code, Dseg, Mseg, Malformed}
use Rattle.statements.specs.Statements.{byte, head_at, permission_at, number_of, packed, row_of, permissions_from, permissions_at, tail_at, code_at, dseg_at, mseg_at}
use Rattle.statements.specs.Kinds.{by_token}

-- `[number] =`, from place `at` on
pub data HeadRead (text : List ℕ) (at : ℕ) : Option (ℕ × ℕ) → Type 0 where
  is : (value next : ℕ) → at < next → next ≤ length text → value < 2 ^ 32 → HeadRead text at (Some (value, next))
  bad : HeadRead text at None

pub head_read : (text : List ℕ) (at : ℕ) → HeadRead text at (head_at text at)
unfolding head_at
head_read text at =
    by_token (HeadRead text at) bad (byte 91 text at) _ λ a e.
    by_token (HeadRead text at) bad (number_at text a) _ λ (n, b) f.
    by_token (HeadRead text at) bad (byte 93 text b) _ λ c g.
    by_token (HeadRead text at) bad (byte 61 text c) _ λ d h.
    let open1 = word_read (91 ∷ []) text at a e in
    let digits = number_read text a n b f in
    let close1 = word_read (93 ∷ []) text b c g in
    let equals = word_read (61 ∷ []) text c d h in
    let c-in : c ≤ length text = close1.inside digits.inside in
    is n d (omega arith) (equals.inside c-in) digits.small

-- a CODE statement, from behind its word on
pub data CodeRead (text : List ℕ) (at : ℕ) : Statement → Type 0 where
  code : (partition : ℕ) (path : Span) (next : ℕ) → at < next → next ≤ length text → path.place + path.length ≤ length text → 2 ≤ path.length
      → path.length ≤ 63 → CodeRead text at (Code partition path next)
  malformed : CodeRead text at Malformed

pub code_read : (text : List ℕ) (at : ℕ) → CodeRead text at (code_at text at)
unfolding code_at
code_read text at =
    by_token (CodeRead text at) malformed (head_at text at) _ λ (p, a) e.
    by_token (CodeRead text at) malformed (path_at text a) _ λ (path, b) f.
    by_token (CodeRead text at) malformed (byte 59 text b) _ λ c g.
    let head : HeadRead text at (Some (p, a)) = rw (← e) (head_read text at) in
    let there = path-read text a path.place path.length b f in
    let end = word_read (59 ∷ []) text b c g in
    code p path c (omega (arith, behind head)) (end.inside there.inside) (omega arith) there.two there.most
  where
    behind : {v w : ℕ} → HeadRead text at (Some (v, w)) → at < w
    behind (is v w low inside small) = low

-- a permission, from place `at` on
pub data PermissionRead (text : List ℕ) (at : ℕ) : Option (Permission × ℕ) → Type 0 where
  is : (permission : Permission) (next : ℕ) → number_of permission ≤ 2 → at < next → (at ≤ length text → next ≤ length text)
      → PermissionRead text at (Some (permission, next))
  bad : PermissionRead text at None

pub permission-read : (text : List ℕ) (at : ℕ) → PermissionRead text at (permission_at text at)
unfolding permission_at
permission-read text at =
    by_token (PermissionRead text at)
    (by_token (PermissionRead text at)
    (by_token (PermissionRead text at) bad (word_at (78 ∷ 65 ∷ []) text at) _ λ next e.
    let w = word_read (78 ∷ 65 ∷ []) text at next e in is NoAccess next (omega arith) (omega arith) w.inside)
    (word_at (82 ∷ 79 ∷ []) text at) _ λ next e.
    let w = word_read (82 ∷ 79 ∷ []) text at next e in is ReadOnly next (omega arith) (omega arith) w.inside)
    (word_at (82 ∷ 87 ∷ []) text at) _ λ next e.
    let w = word_read (82 ∷ 87 ∷ []) text at next e in is ReadWrite next (omega arith) (omega arith) w.inside

-- a row of permissions, from place `at` on: the number that holds the last eight stays below 65,536
pub data RowRead (text : List ℕ) (at : ℕ) : Option (Permissions × ℕ) → Type 0 where
  are : (count bits next : ℕ) → bits < 65536 → at ≤ next → (at ≤ length text → next ≤ length text) → RowRead text at (Some (row_of count bits, next))
  bad : RowRead text at None

packed-small : (bits : ℕ) (permission : Permission) → packed bits permission < 65536
unfolding packed
packed-small bits permission = omega arith

row_on : (text : List ℕ) (at b : ℕ) (r : Option (Permissions × ℕ)) → at ≤ b → (at ≤ length text → b ≤ length text) → RowRead text b r → RowRead text at r
row_on text at b r low inside (are count bits next small on fits) = are count bits next small (omega arith) (λ h. fits (inside h))
row_on text at b r low inside bad = bad

row_from : (n : ℕ) (text : List ℕ) (at count bits : ℕ) → bits < 65536 → RowRead text at (permissions_from n text at count bits)
unfolding permissions_from
row_from zero text at count bits small = bad
row_from (suc n) text at count bits small =
    by_token (RowRead text at) (are count bits at small (omega arith) (λ h. h)) (byte 44 text at) _ λ a e.
    by_token (RowRead text at) bad (permission_at text a) _ λ (permission, b) f.
    let comma = word_read (44 ∷ []) text at a e in
    let read : PermissionRead text a (Some (permission, b)) = rw (← f) (permission-read text a) in
    row_on text at b _ (omega (arith, low read)) (λ h. inside read (comma.inside h))
    (row_from n text b (count + 1) (packed bits permission) (packed-small bits permission))
  where
    low : {a : ℕ} {v : Permission} {w : ℕ} → PermissionRead text a (Some (v, w)) → a < w
    low (is v w two on fits) = on

    inside : {a : ℕ} {v : Permission} {w : ℕ} → PermissionRead text a (Some (v, w)) → a ≤ length text → w ≤ length text
    inside (is v w two on fits) = fits

pub row_read : (text : List ℕ) (at : ℕ) → RowRead text at (permissions_at text at)
unfolding permissions_at
row_read text at = row_from (length text) text at 0 0 (omega arith)

-- `, partition, permission+ };`, from place `at` on
pub data TailRead (text : List ℕ) (at : ℕ) : Option (Grants × ℕ) → Type 0 where
  is : (grants : Grants) (next : ℕ) → grants.host < 2 ^ 32 → 1 ≤ grants.permissions.count → grants.permissions.bits < 65536 → at < next → next ≤ length text
      → TailRead text at (Some (grants, next))
  bad : TailRead text at None

pub tail-read : (text : List ℕ) (at : ℕ) → TailRead text at (tail_at text at)
unfolding tail_at
tail-read text at =
    by_token (TailRead text at) bad (byte 44 text at) _ λ a e.
    by_token (TailRead text at) bad (number_at text a) _ λ (host, b) f.
    by_token (TailRead text at) bad (permissions_at text b) _ λ (permissions, c) g.
    by_test (eqb permissions.count 0) λ t.
    by_token (TailRead text at) bad (byte 125 text c) _ λ d h.
    by_token (TailRead text at) bad (byte 59 text d) _ λ z k.
    let comma = word_read (44 ∷ []) text at a e in
    let digits = number_read text a host b f in
    let row : RowRead text b (Some (permissions, c)) = rw (← g) (row_read text b) in
    let brace = word_read (125 ∷ []) text c d h in
    let end = word_read (59 ∷ []) text d z k in
    let some : permissions.count ≡ 0 → ⊥ = eqb-false permissions.count 0 t in
    let behind = row_low row in
    is (record { host = host; permissions = permissions }) z digits.small (omega arith) (row_small row) (omega arith) (end.inside (brace.inside (row_inside row digits.inside)))
  where
    by_test : (t : Bool) {x : Option (Grants × ℕ)} → (t ≡ false → TailRead text at x) → TailRead text at (cond t None x)
    by_test true h = bad
    by_test false h = h refl

    row_low : {b : ℕ} {p : Permissions} {c : ℕ} → RowRead text b (Some (p, c)) → b ≤ c
    row_low (are count bits next small on fits) = on

    row_small : {b : ℕ} {p : Permissions} {c : ℕ} → RowRead text b (Some (p, c)) → p.bits < 65536
    row_small (are count bits next small on fits) = small

    row_inside : {b : ℕ} {p : Permissions} {c : ℕ} → RowRead text b (Some (p, c)) → b ≤ length text → c ≤ length text
    row_inside (are count bits next small on fits) = fits

module _ (text : List ℕ) where
  head-low : {at v w : ℕ} → HeadRead text at (Some (v, w)) → at < w
  head-low (is v w low inside small) = low

  -- a DSEG statement, from behind its word on
  pub data DsegRead (at : ℕ) : Statement → Type 0 where
    dseg : (index : ℕ) (path : Span) (grants : Grants) (next : ℕ) → path.place + path.length ≤ length text → 2 ≤ path.length → path.length ≤ 63
        → {from : ℕ} → at < from → TailRead text from (Some (grants, next)) → DsegRead at (Dseg index path grants next)
    malformed : DsegRead at Malformed

  pub dseg-read : (at : ℕ) → DsegRead at (dseg_at text at)
  unfolding dseg_at
  dseg-read at =
      by_token (DsegRead at) malformed (head_at text at) _ λ (index, a) e.
      by_token (DsegRead at) malformed (byte 123 text a) _ λ b f.
      by_token (DsegRead at) malformed (path_at text b) _ λ (path, c) g.
      by_token (DsegRead at) malformed (tail_at text c) _ λ (grants, d) h.
      let head : HeadRead text at (Some (index, a)) = rw (← e) (head_read text at) in
      let brace = word_read (123 ∷ []) text a b f in
      let there = path-read text b path.place path.length c g in
      let rest : TailRead text c (Some (grants, d)) = rw (← h) (tail-read text c) in
      let low = head-low head in
      dseg index path grants d (omega arith) there.two there.most (omega arith) rest

  -- an MSEG statement, from behind its word on
  pub data MsegRead (at : ℕ) : Statement → Type 0 where
    mseg : (index size : ℕ) (grants : Grants) (next : ℕ) → size < 2 ^ 62
        → {from : ℕ} → at < from → TailRead text from (Some (grants, next)) → MsegRead at (Mseg index size grants next)
    malformed : MsegRead at Malformed

  pub mseg-read : (at : ℕ) → MsegRead at (mseg_at text at)
  unfolding mseg_at
  mseg-read at =
      by_token (MsegRead at) malformed (head_at text at) _ λ (index, a) e.
      by_token (MsegRead at) malformed (byte 123 text a) _ λ b f.
      by_token (MsegRead at) malformed (size_at text b) _ λ (size, c) g.
      by_token (MsegRead at) malformed (tail_at text c) _ λ (grants, d) h.
      let head : HeadRead text at (Some (index, a)) = rw (← e) (head_read text at) in
      let brace = word_read (123 ∷ []) text a b f in
      let digits = size-read text b size c g in
      let rest : TailRead text c (Some (grants, d)) = rw (← h) (tail-read text c) in
      let low = head-low head in
      mseg index size grants d digits.small (omega arith) rest
