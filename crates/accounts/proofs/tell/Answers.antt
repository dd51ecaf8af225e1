-- `accounts::tell` meets its contract: a zero behind the name is one write of both. Assumes nothing.
use Rattle.std.proofs.Common.{List, [], ◌∷◌, ◌++◌, ◌≡◌, ℕ, zero-add, length}
use Rattle.octets.specs.Lists.{over, write_at}
use Rattle.octets.specs.WriteLaws.{write_at-zero, write_at-append}
use Rattle.accounts.specs.Users.{user_name}
use Rattle.accounts.proofs.tell.Goals as goal

behind : (a b old : List ℕ) → write_at (length a) b (write_at 0 a old) ≡ over (a ++ b) old
behind a b old = rw (zero-add (length a), write_at-zero (a ++ b) old) at (write_at-append 0 a b old)

pub returns : goal.returns
returns c = let args = c.args in
    rw (c.lay-2.ensures, c.lay.ensures, c.user_name-name.ensures) (behind (user_name args.held.user args.table.now) (0 ∷ []) args.buffer.now)
