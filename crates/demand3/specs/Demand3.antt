-- Demand 3, from start: "Run two terminals that start alike and receive like events and calls, except for the digests in one active partition's password file and the
-- passwords in that partition's login and set-password calls."
use Rattle.std.specs.Prelude.{Bool, true, false, List, map, ◌≡◌, ℕ, ◌<◌, get_or}
use Rattle.terminal.specs.declared.Terminal.{Terminal}
use Rattle.terminal.specs.Start.{Start, start}
use Rattle.steps.specs.World.{World, Move, run}
use Rattle.good.specs.Good.{Good}
use Rattle.started.specs.Start.{world_of, start-good}
use Rattle.silence.specs.Mask.{mask, mask_result}
use Rattle.silence.specs.Runs.{AllAlike, AllSeenAlike}
use Rattle.silence.specs.SecondHalf.{FairRuns}
use Rattle.demand3.specs.Images.{mask_image}
use Rattle.demand3.specs.Answers.{same_number, same_line, both-refused}
use Rattle.demand3.specs.Starts.{started-active, alike-good, starts-alike}
use Rattle.demand3.specs.Runs.{good-worlds-alike, good-worlds-same}

-- No theorem here is proved by another that a weaker premise makes fall, so that an edit of a premise is refused at each of them.

-- two starts that are alike but for the store
module _ (t : Terminal) (count : ℕ) (active : List Bool) (soft : Bool) (text arena tables screens : List ℕ) (permissions : List (List ℕ)) where
  abbrev from : List ℕ → Start
  from store = start t count active soft text store arena tables screens permissions

  -- and for the store only in the digests in partition q's password file
  module _ (q : ℕ) (store other : List ℕ) (like : mask_image q store ≡ mask_image q other) where
    -- the worlds that they leave
    abbrev one : World
    one = world_of (from store) store

    abbrev two : World
    two = world_of (from other) other

    abbrev before : List ℕ → World
    before image = record { terminal = t; permissions = permissions; store = image; arena = arena; tables = tables; screens = screens }

    -- the two starts get the same answer
    pub same_answer : ((from store).started.number ≡ (from other).started.number) × ((from store).started.line ≡ (from other).started.line)
    same_answer = (
      same_number t count active soft text arena tables screens permissions q store other like,
      same_line t count active soft text arena tables screens permissions q store other like,
    )

    -- where it is a refusal, both leave everything as it was
    pub refused-alike : ((from store).started.number ≡ 0 → ⊥) → (one ≡ before store) × (two ≡ before other)
    refused-alike = both-refused t count active soft text arena tables screens permissions q store other like

    -- where it is none, and q is active:
    module _ (accepted : (from store).started.number ≡ 0) (low : q < count) (flag : get_or active q false ≡ true) where
      good-one : Good one
      good-one = start-good t count active soft text store arena tables screens permissions accepted

      good-two : Good two
      good-two = alike-good t count active soft text arena tables screens permissions q store other like accepted

      -- the two terminals look alike at the start
      pub worlds-alike : (login : Bool) → mask login q one ≡ mask login q two
      worlds-alike login = starts-alike t count active soft text arena tables screens permissions q low flag login store other like accepted

      -- "Everything is the same in both but that file on the store and in memory, that partition's login record, its answers to login, who and set-password, and the
      -- buffer who fills."
      pub demand_3 : (ms ns : List Move) → AllAlike q ms ns → AllSeenAlike q ms (run one ms) (run two ns)
      demand_3 ms ns =
          good-worlds-alike q one two good-one
          (alike-good t count active soft text arena tables screens permissions q store other like accepted)
          (started-active t count active soft text arena tables screens permissions store q accepted low flag) ms ns
          (starts-alike t count active soft text arena tables screens permissions q low flag false store other like accepted)

      -- "If besides each of its logins gets the same answer number, and each of its new passwords is allowed in both or in neither, then those answers, their work
      -- counts and the login record are the same too."
      pub demand_3_fair : (ms ns : List Move) → FairRuns q one two ms ns → map (mask_result true q) (run one ms) ≡ map (mask_result true q) (run two ns)
      demand_3_fair ms ns =
          good-worlds-same q one two good-one
          (alike-good t count active soft text arena tables screens permissions q store other like accepted)
          (started-active t count active soft text arena tables screens permissions store q accepted low flag) ms ns
          (starts-alike t count active soft text arena tables screens permissions q low flag true store other like accepted)
