-- A small terminal to ask: one partition, its screen, and a password table of two accounts.
use Rattle.std.specs.Prelude.{true, false, List, [], ◌∷◌, ◌++◌, ℕ, replicate}
use Rattle.octets.specs.Spans.{span}
use Rattle.state.specs.declared.Login.{Login}
use Rattle.state.specs.declared.Login.TheVariants.{Nobody, User}
use Rattle.state.specs.declared.Plan.{Plan}
use Rattle.state.specs.declared.State.{State}
use Rattle.state.specs.Empty.{no_seat, no_segment, no_partition}
use Rattle.devices.specs.Queue.{no_keys}
use Rattle.terminal.specs.declared.Terminal.{Terminal}

abbrev plan : Plan
plan =
    record {
      count = 1;
      soft = false;
      dsegs = 0;
      msegs = 0;
      seats = record { active = true; table = span 0 79; file = span 0 79 } ∷ replicate 7 no_seat;
      segments = replicate 32 no_segment;
      kept = record { store = 79; arena = 0; tables = 79; screens = 2000 };
    }

abbrev state_of : Login → State
state_of who =
    record {
      partitions = record { keyboard = no_keys; cursor = 0; keyfault = false; screenfault = false; login = record { user = who } } ∷ replicate 7 no_partition;
      focus = 0;
      stopped = false;
      off = false;
    }

-- nobody is logged in; the first of the two accounts is
unfoldable pub desk : Terminal
desk = record { plan = plan; state = state_of Nobody }

unfoldable pub taken : Terminal
taken = record { plan = plan; state = state_of (User 0) }

-- n bytes and a zero
unfoldable pub text : ℕ → List ℕ
text n = replicate n 97 ++ (0 ∷ [])
