-- `memory::rights::number_at` meets its contract: behind the table stand rows of zeros, and inside it the default does not matter. Assumes nothing.
use Rattle.std.proofs.Common.{List, [], ◌≡◌, refl, ℕ, zero, suc, ◌≤◌, ◌<◌, arith, length, get_or, replicate, rules}
use Rattle.std.proofs.Math.ListN.{get_or-eq_default}
use Rattle.setup.specs.Values.{get_or_any}
use Rattle.memory.proofs.rights.number_at.Goals as goal

zero-at : (n p : ℕ) → ◌≡◌ {A = ℕ} 0 (get_or (replicate n 0) p 0)
zero-at zero p = refl
zero-at (suc n) zero = refl
zero-at (suc n) (suc p) = zero-at n p

behind : (rows : List (List ℕ)) (row p : ℕ) → length rows ≤ row → ◌≡◌ {A = ℕ} 0 (get_or (get_or rows row (replicate 8 0)) p 0)
behind rows row p h = rw (get_or-eq_default rows (replicate 8 0) h) (zero-at 8 p)

pub returns-then-row-ge-ROWS : goal.returns-then-row-ge-ROWS
returns-then-row-ge-ROWS c = let args = c.args in
    let count : length c.args.permissions.now ≡ 32 = search rules in
    let out : length c.args.permissions.now ≤ c.args.row = omega arith in
    behind args.permissions.now args.row args.partition out

pub returns : goal.returns
returns c = let args = c.args in
    let count : length c.args.permissions.now ≡ 32 = search rules in
    let inside : c.args.row < length c.args.permissions.now = omega arith in
    rw (c.number_in.ensures, get_or_any args.permissions.now args.row [] (replicate 8 0) inside)
