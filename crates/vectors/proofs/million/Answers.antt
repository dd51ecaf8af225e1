-- That a row of 1,000,000 has that length is a law here: counting it out is beyond the checker.
use Rattle.std.proofs.Common.{◌≡◌, sym, ℕ, length, replicate}
use Rattle.std.proofs.Math.ListN.{length-replicate}
use Rattle.vectors.proofs.million.Goals as goal

counted : (n b : ℕ) → n ≡ length (replicate n b)
counted n b = sym (length-replicate n b)

pub slice_bounds-line-end-2 : goal.slice_bounds-line-end-2
slice_bounds-line-end-2 c = counted 1000000 97
