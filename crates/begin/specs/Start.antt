-- Start: the refusals in order of checking, and what a start makes.
use Rattle.std.specs.Prelude.{Bool, true, false, not, ◌&&◌, ◌||◌, List, [], ◌∷◌, ℕ, zero, suc, ◌*◌, ltb, length, Result, Ok, Err}
use Rattle.octets.specs.Lists.{over}
use Rattle.checks.specs.Checks.{Check, ◌when◌, after}
use Rattle.checks.specs.Settle.{settle}
use Rattle.image.specs.Image.{good, spot, file, was_found}
use Rattle.passwords.specs.PasswordFile.{well_formed}
use Rattle.octets.specs.declared.span.Span.{Span}
use Rattle.setup.specs.declared.Setup.{Setup}
use Rattle.setup.specs.Outcomes.{Outcome}
use Rattle.setup.specs.Setup.{is_active}
use Rattle.setup.specs.Rules.{limits}
use Rattle.setup.specs.Reading.{read, refusal, permission_table}
use Rattle.state.specs.declared.Plan.{Plan}
use Rattle.state.specs.declared.State.{State}
use Rattle.state.specs.Empty.{no_plan, no_state}
use Rattle.checks.specs.Refusals.{number_of}
use Rattle.begin.specs.declared.Begun.{Begun as Accepted}
use Rattle.setup.specs.declared.Refused.{Refused}
use Rattle.begin.specs.Files.{password_path, dseg_files, password_files}
use Rattle.begin.specs.Planned.{start_of, table_start, plan_of, first_state}
use Rattle.begin.specs.Filled.{arena_image, tables_image, cleared}

-- ---- refusals, in order of checking

-- 401 and 402, then 403: "image bad"
unfoldable pub early : ℕ → List Bool → List ℕ → List ℕ → ℕ
early count active text store = after (limits count active (length text)) ((403 when not (good store)) ∷ [])

-- 401 to 414, with the line, or what the text sets up
unfoldable pub described : ℕ → List Bool → List ℕ → List ℕ → Outcome
described count active text store =
    settle (early count active text store) (read true store text count active) (refusal (early count active text store) 0)

-- 415: "arena, table or screen area too short (a missing file counts 0)", areas of so many bytes and files at these places of the store; "a screen
-- area of 2,000 bytes for each partition", passive ones too
unfoldable pub no_room : Setup → List Span → List Span → ℕ → ℕ → ℕ → Bool
no_room s files passwords arena tables screens =
    ltb arena (start_of s files 32) || (ltb tables (table_start passwords 8) || ltb screens (2000 * s.partitions))

unfoldable pub short : Setup → List ℕ → List ℕ → ℕ → ℕ → ℕ → Bool
short s text store arena tables screens = no_room s (dseg_files s text store) (password_files s store) arena tables screens

-- 416: "an active partition's password file missing or malformed", of the n first partitions
unfoldable pub bad_file : List ℕ → List ℕ → Bool
bad_file path store = not (was_found (spot path store)) || not (well_formed (file path store))

unfoldable pub bad_passwords : ℕ → Setup → List ℕ → Bool
bad_passwords zero s store = false
bad_passwords (suc n) s store = (is_active s n && bad_file (password_path n) store) || bad_passwords n s store

unfoldable pub late_checks : Setup → List ℕ → List ℕ → ℕ → ℕ → ℕ → List Check
late_checks s text store arena tables screens =
    (415 when short s text store arena tables screens) ∷
    (416 when bad_passwords 8 s store) ∷ []

-- all of them: number and line, which 415 and 416 do not have, and the set-up
unfoldable pub verdict : ℕ → List Bool → List ℕ → List ℕ → ℕ → ℕ → ℕ → Outcome
verdict count active text store arena tables screens =
    let o : Outcome = described count active text store in
    record {
      number = after o.number (late_checks o.setup text store arena tables screens);
      line = settle o.number 0 o.line;
      setup = o.setup;
    }

-- ---- start

-- a refusal's number and line, with an empty plan and state; or 0 and 0, with the plan and the first state
pub record Begun : Type 0 where
  pub number : ℕ
  pub line : ℕ
  pub plan : Plan
  pub state : State

-- what a start answers, and the lent areas and the permission table afterwards
pub record Beginning : Type 0 where
  pub number : ℕ
  pub line : ℕ
  pub plan : Plan
  pub state : State
  pub arena : List ℕ
  pub tables : List ℕ
  pub screens : List ℕ
  pub permissions : List (List ℕ)

abbrev pub beginning : Begun → List ℕ → List ℕ → List ℕ → List (List ℕ) → Beginning
beginning r arena tables screens permissions =
    record {
      number = r.number;
      line = r.line;
      plan = r.plan;
      state = r.state;
      arena = arena;
      tables = tables;
      screens = screens;
      permissions = permissions;
    }

-- what start answers
abbrev pub accepted : Plan → State → Begun
accepted plan state = record { number = 0; line = 0; plan = plan; state = state }

abbrev pub refused : ℕ → ℕ → Begun
refused number line = record { number = number; line = line; plan = no_plan; state = no_state }

-- the same, of what the code answers
abbrev pub begun_of : Result Accepted Refused → Begun
begun_of (Ok b) = accepted b.plan b.state
begun_of (Err r) = refused (number_of r.refusal) r.line

-- "Start fills the arena ..; the table area likewise .. Bytes behind stay. Active partitions' screens .. become spaces"
unfoldable pub filled : Plan → State → List (List ℕ) → List ℕ → List ℕ → List ℕ → List ℕ → Beginning
filled plan state permissions store arena tables screens =
    beginning (accepted plan state)
    (over (arena_image plan store) arena) (over (tables_image plan store) tables) (cleared plan 8 screens) permissions

-- a verdict carried out. "A refused start changes no lent byte"
unfoldable pub carried_out : Outcome → Bool → List ℕ → List ℕ → List ℕ → List ℕ → List ℕ → List (List ℕ) → Beginning
carried_out v soft text store arena tables screens permissions =
    settle v.number
    (filled
    (plan_of soft v.setup text store (record { store = length store; arena = length arena; tables = length tables; screens = length screens }))
    (first_state v.setup) (permission_table v.setup) store arena tables screens)
    (beginning (refused v.number v.line) arena tables screens permissions)

unfoldable pub start : ℕ → List Bool → Bool → List ℕ → List ℕ → List ℕ → List ℕ → List ℕ → List (List ℕ) → Beginning
start count active soft text store arena tables screens permissions =
    carried_out (verdict count active text store (length arena) (length tables) (length screens)) soft text store arena tables screens permissions
