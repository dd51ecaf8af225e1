-- A small terminal with all that is lent to it. Partitions 0 and 1 are active; 0 has the accounts "ab" and "c", and 1 has none. There are no segments, and the
-- store is partition 0's password file and nothing else: the worlds are made by hand, no start makes them.
use Rattle.std.specs.Prelude.{true, false, List, [], ◌∷◌, ◌++◌, ℕ, replicate}
use Rattle.devices.specs.Queue.{no_keys}
use Rattle.devices.specs.Screen.{blanks}
use Rattle.octets.specs.Spans.{span, no_span}
use Rattle.sha256.specs.Words.{bytes_of}
use Rattle.sha256.specs.Padding.{zeros, length_field, padded, blocks}
use Rattle.sha256.specs.Padding as padding
use Rattle.console_examples.specs.Opened as console
use Rattle.passwords_examples.specs.Examples.{entry, account}
use Rattle.passwords_examples.specs.Examples as passwords
use Rattle.state.specs.declared.Login.{Login}
use Rattle.state.specs.declared.Plan.{Plan}
use Rattle.state.specs.declared.State.{State}
use Rattle.state.specs.Empty.{no_seat, no_segment, no_partition}
use Rattle.state.specs.Parts.{segment_at, seat_at, is_active, with_login, part_at, with_part, with_focus, with_stop}
use Rattle.guard.specs.Test.{all_of, inside, good_segment, good_seat, good_partition, good_counts, good_plan, good}
use Rattle.guard.specs.Guard.{guard}
use Rattle.guard.specs.Events.{running, behind, seek}
use Rattle.guard.specs.Events as events
use Rattle.accounts.specs.Strings.{ending, is_string, string_of}
use Rattle.accounts.specs.Users.{is_user, place_of, placed, readable, user_name}
use Rattle.accounts.specs.Login.{tried, login_checks}
use Rattle.accounts.specs.Login as logins
use Rattle.accounts.specs.SetPassword.{file_image, on_store, in_memory, written, set_checks}
use Rattle.accounts.specs.SetPassword as passwordCalls
use Rattle.terminal.specs.Terminal.{with_state, with_partition, partition_of, record_of, with_record, table_of, file_of, guard_of, differs, tables_wrong}
use Rattle.terminal.specs.AccountCalls as accountCalls
use Rattle.terminal.specs.StopCalls as stops
use Rattle.terminal.specs.Events as terminalEvents
use Rattle.steps.specs.World.{World, answers, becomes, step, run}

-- the accounts: "ab" with this digest of 32 bytes, then "c" with a digest of eights: 40 and 39 bytes
unfoldable pub accounts : List ℕ → List ℕ
accounts digest = entry 2 (digest ++ (97 ∷ 98 ∷ [])) ++ account 8 (99 ∷ [])

unfoldable pub plan : Plan
plan =
    record {
      count = 2;
      soft = false;
      dsegs = 0;
      msegs = 0;
      seats = record { active = true; table = span 0 79; file = span 0 79 } ∷ record { active = true; table = no_span; file = no_span } ∷ replicate 6 no_seat;
      segments = replicate 32 no_segment;
      kept = record { store = 79; arena = 0; tables = 79; screens = 4000 };
    }

-- `who` is logged in at partition 0, nobody at partition 1; partition 0 has the focus
unfoldable pub state_of : Login → State
state_of who =
    record {
      partitions = record { keyboard = no_keys; cursor = 0; keyfault = false; screenfault = false; login = record { user = who } } ∷ replicate 7 no_partition;
      focus = 0;
      stopped = false;
      off = false;
    }

-- the world: all of it but who is logged in at partition 0 and the digest of "ab" is always the same
unfoldable pub room : Login → List ℕ → World
room who digest =
    record {
      terminal = record { plan = plan; state = state_of who };
      permissions = replicate 32 (replicate 8 0);
      store = accounts digest;
      arena = [];
      tables = accounts digest;
      screens = blanks 4000;
    }

-- 32 sevens: the digest of no password that is used here
unfoldable pub sevens : List ℕ
sevens = replicate 32 7

-- "ab" and "x", each with its zero
unfoldable pub ab : List ℕ
ab = 97 ∷ 98 ∷ 0 ∷ []

unfoldable pub x : List ℕ
x = 120 ∷ 0 ∷ []

-- a name that opens, on an `unfolding` line, all that these worlds and the moves made in them are defined by, save the digest
unfoldable pub opened : ℕ
unfolding console.opened passwords.opened bytes_of zeros length_field padding.ending padded blocks segment_at seat_at is_active with_login part_at with_part with_focus with_stop all_of inside good_segment good_seat good_partition good_counts good_plan good guard running behind seek events.attention ending is_string string_of is_user place_of placed readable user_name tried login_checks logins.login file_image on_store in_memory written set_checks passwordCalls.set_password with_state with_partition partition_of record_of with_record table_of file_of guard_of differs tables_wrong accountCalls.tried accountCalls.login accountCalls.logout accountCalls.set_password accountCalls.replaced stops.stopped stops.shutdown terminalEvents.attention answers becomes step run accounts plan state_of room sevens ab x
opened = 0
