-- A row of permissions, one permission at a time.
use Rattle.std.specs.Prelude.{List, ◌≡◌, ℕ, suc, ◌+◌, ◌-◌, ◌≤◌, ◌<◌, length, Some, None}
use Rattle.std.proofs.Common.{ap, arith}
use Rattle.statements.specs.declared.Permission.{Permission}
use Rattle.statements.specs.Statements.{byte, permission_at, packed, row_of, permissions_from, permissions_at}

-- with at most n - k permissions to come, and k below n, there is one
one_more : (n k : ℕ) → k < n → n - k ≡ suc (n - (k + 1))
one_more n k h = omega arith

pub row_all : (text : List ℕ) (at : ℕ) → permissions_at text at ≡ permissions_from (length text - 0) text at 0 0
unfolding permissions_at
row_all text at = let e : length text ≡ length text - 0 = omega arith in ap (λ (n : ℕ). permissions_from n text at 0 0) e

pub row_out : (text : List ℕ) (n at count bits : ℕ) → n ≤ count → permissions_from (n - count) text at count bits ≡ None
unfolding permissions_from
row_out text n at count bits h = let e : n - count ≡ 0 = omega arith in rw e

module _ (text : List ℕ) (n at count bits : ℕ) (h : count < n) where
  -- no comma follows
  pub row_end : byte 44 text at ≡ None → permissions_from (n - count) text at count bits ≡ Some (row_of count bits, at)
  unfolding permissions_from
  row_end e = rw (one_more n count h, e)

  -- no permission follows the comma
  pub row-bad : (a : ℕ) → byte 44 text at ≡ Some a → permission_at text a ≡ None → permissions_from (n - count) text at count bits ≡ None
  unfolding permissions_from
  row-bad a e f = rw (one_more n count h, e, f)

  pub row_more : (a : ℕ) (permission : Permission) (b : ℕ) → byte 44 text at ≡ Some a → permission_at text a ≡ Some (permission, b)
      → permissions_from (n - count) text at count bits ≡ permissions_from (n - (count + 1)) text b (count + 1) (packed bits permission)
  unfolding permissions_from
  row_more a permission b e f = rw (one_more n count h, e, f)

-- how a row goes on and ends
pub ruleset one_by_one = (row_all, row_out, row_end, row-bad, row_more)
