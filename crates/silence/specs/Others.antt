-- Login, who and set-password of a partition p that is not q, behind the mask of q: p's own record, table and file are as they were.
use Rattle.std.specs.Prelude.{Bool, ℕ}
use Rattle.terminal.specs.AccountCalls as accounts
use Rattle.silence.specs.Mask.{mask_store, mask_tables}
use Rattle.silence.specs.Worlds.{mask_answer}

-- what set-password leaves, behind the mask
unfoldable pub mask_written : Bool → ℕ → accounts.Written → accounts.Written
mask_written kept q o =
    accounts.written (mask_answer kept q o.answer) (mask_store q o.answer.terminal.plan o.store) (mask_tables q o.answer.terminal.plan o.tables)
