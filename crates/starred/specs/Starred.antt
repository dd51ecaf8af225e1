-- Document 01, "Points on either side": the starred points, those about the text and those about calls, as one table over the definitions. A point is what the
-- definitions answer, and what document 01 says.
use Rattle.std.specs.Prelude.{List, [], ◌∷◌, ◌++◌, map, ◌≡◌, refl, ℕ, replicate}
use Rattle.octets.specs.Search.{index_of, index_after}
use Rattle.checks.specs.Checks.{refused, after}
use Rattle.checks.specs.Settle.{settle}
use Rattle.devices.specs.Screen.{blanks}
use Rattle.setup_examples.specs.Points as texts
use Rattle.console_examples.specs.Opened as console
use Rattle.passwords_examples.specs.Examples.{two}
use Rattle.passwords_examples.specs.Examples as passwords
use Rattle.state.specs.Parts.{segment_at, seat_at, is_active, with_login, part_at, with_part}
use Rattle.guard.specs.Test.{all_of, inside, good_segment, good_seat, good_partition, good_counts, good_plan, good}
use Rattle.guard.specs.Guard.{guard}
use Rattle.accounts.specs.Strings.{ending, is_string, string_of}
use Rattle.accounts.specs.Users.{is_user, place_of, placed, readable}
use Rattle.accounts.specs.Login.{tried, login_checks}
use Rattle.accounts.specs.Login as logins
use Rattle.accounts.specs.SetPassword.{written, set_checks}
use Rattle.accounts.specs.SetPassword as passwordCalls
use Rattle.terminal.specs.Terminal.{with_state, with_partition, partition_of, record_of, with_record, table_of, file_of, guard_of, differs, tables_wrong}
use Rattle.terminal.specs.DeviceCalls.{replied, read_random, write_next, write_random}
use Rattle.terminal.specs.AccountCalls.{login, set_password, replaced}
use Rattle.terminal.specs.AccountCalls as accountCalls
use Rattle.starred.specs.Desk.{desk, taken, text}

pub record Point : Type 0 where
  pub answered : List ℕ
  pub said : List ℕ

abbrev point : List ℕ → List ℕ → Point
point answered said = record { answered = answered; said = said }

-- ---- the points about the text: number and line

unfoldable pub of_text : texts.Point → Point
of_text p = point ((texts.answered p).number ∷ (texts.answered p).line ∷ []) (p.number ∷ p.line ∷ [])

-- ---- the points about calls, asked of the terminal: the number, and the count where it matters

abbrev five : List ℕ
five = replicate 5 46

-- "Offset 1,999 request 5: one cell; 2,000: 210; 2,001: 209"
abbrev read : ℕ → List ℕ
read offset = let o = read_random desk 0 2 0 offset 5 (blanks 2000) five in o.answer.number ∷ o.answer.count ∷ []

abbrev enter : List ℕ → List ℕ → List ℕ
enter name password = let a = login desk 0 name password two in a.number ∷ []

pub of_calls : List Point
of_calls =
    point (read 1999) (0 ∷ 1 ∷ []) ∷
    point (read 2000) (210 ∷ 0 ∷ []) ∷
    point (read 2001) (209 ∷ 0 ∷ []) ∷
    -- "Write-random on keyboard: 208, next-write: 202"
    point ((write_random desk 0 1 0 0 5 five (blanks 2000)).answer.number ∷ []) (208 ∷ []) ∷
    point ((write_next desk 0 1 0 5 five (blanks 2000)).answer.number ∷ []) (202 ∷ []) ∷
    -- "Password of 32 bytes and a zero: allowed; 33: 302": for a new password, and for a login with a name that there is not
    point ((set_password taken 0 (text 32) 79 two two).answer.number ∷ []) (0 ∷ []) ∷
    point ((set_password taken 0 (text 33) 79 two two).answer.number ∷ []) (302 ∷ []) ∷
    point (enter (text 1) (text 32)) (300 ∷ []) ∷
    point (enter (text 1) (text 33)) (302 ∷ []) ∷
    -- "Empty name: 300"
    point (enter (text 0) (text 1)) (300 ∷ []) ∷
    -- "Logged in and bad name at once: 301"
    point ((login taken 0 (text 33) (text 1) two).number ∷ []) (301 ∷ []) ∷ []

pub starred : List Point
starred = map of_text texts.starred ++ of_calls

-- opens every definition that the calls rest on, save the digest
unfoldable opened : ℕ
unfolding texts.opened console.opened passwords.opened index_of index_after refused after settle segment_at seat_at is_active with_login part_at with_part all_of inside good_segment good_seat good_partition good_counts good_plan good guard ending is_string string_of is_user place_of placed readable tried login_checks logins.login written set_checks passwordCalls.set_password with_state with_partition partition_of record_of with_record table_of file_of guard_of differs tables_wrong replied read_random write_next write_random accountCalls.tried login set_password replaced desk taken text
opened = 0

-- what the definitions answer is what document 01 says
pub starred_hold : map (λ (p : Point). p.answered) starred ≡ map (λ (p : Point). p.said) starred
unfolding starred of_text of_calls texts.starred texts.answered opened
starred_hold = refl
