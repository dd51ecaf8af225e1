-- Laws of the attention key's search, as a loop makes it: it ends at an active partition, and goes on from a passive one.
use Rattle.std.specs.Prelude.{true, false, ◌≡◌, ℕ, zero, suc, ◌-◌, ◌<◌}
use Rattle.std.proofs.Common.{not-suc-le-zero, arith}
use Rattle.state.specs.declared.Plan.{Plan}
use Rattle.state.specs.Parts.{is_active}
use Rattle.guard.specs.Events.{behind, seek}

pub seek-active : (n : ℕ) (plan : Plan) (p : ℕ) → 0 < n → is_active plan p ≡ true → seek n plan p ≡ p
unfolding seek
seek-active zero plan p h e = absurd (not-suc-le-zero h)
seek-active (suc n) plan p h e = rw e

pub seek_passive : (n : ℕ) (plan : Plan) (p : ℕ) → 0 < n → is_active plan p ≡ false → seek n plan p ≡ seek (n - 1) plan (behind plan p)
unfolding seek
seek_passive zero plan p h e = absurd (not-suc-le-zero h)
seek_passive (suc n) plan p h e = let k : suc n - 1 ≡ n = omega arith in rw (k, e)

-- where none is looked at, it stays where it is
pub seek-none : (n : ℕ) (plan : Plan) (p : ℕ) → n ≡ 0 → seek n plan p ≡ p
unfolding seek
seek-none n plan p e = rw e

-- what a loop over the search goes by
pub ruleset turns = (seek-active, seek_passive, seek-none)
