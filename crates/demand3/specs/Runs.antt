-- Demand 3 of two worlds that start made: every step keeps what is good of them.
use Rattle.std.specs.Prelude.{true, false, List, map, ◌≡◌, ℕ}
use Rattle.state.specs.Parts.{is_active}
use Rattle.steps.specs.World.{World, Move, run}
use Rattle.good.specs.Good.{Good}
use Rattle.good.specs.Steps.{good-step}
use Rattle.silence.specs.Mask.{mask, mask_result}
use Rattle.silence.specs.Runs.{AllAlike, AllSeenAlike}
use Rattle.silence.proofs.Runs.{runs-alike}
use Rattle.silence.specs.SecondHalf.{FairRuns}
use Rattle.silence.proofs.SecondHalf.{runs_same}

module _ (q : ℕ) (w v : World) (g : Good w) (h : Good v) (a : is_active w.terminal.plan q ≡ true) (ms ns : List Move) where
  -- "Everything is the same in both but that file on the store and in memory, that partition's login record, its answers to login, who and set-password, and the
  -- buffer who fills."
  pub good-worlds-alike : mask false q w ≡ mask false q v → AllAlike q ms ns → AllSeenAlike q ms (run w ms) (run v ns)
  good-worlds-alike e alike = runs-alike good-step q w v g h a e alike

  -- "If besides each of its logins gets the same answer number, and each of its new passwords is allowed in both or in neither, then those answers, their work counts
  -- and the login record are the same too."
  pub good-worlds-same : mask true q w ≡ mask true q v → FairRuns q w v ms ns → map (mask_result true q) (run w ms) ≡ map (mask_result true q) (run v ns)
  good-worlds-same e fair = runs_same good-step q g h a e fair
