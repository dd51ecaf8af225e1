-- Demand 3's conditions can be met, both halves of them, and by runs in which passwords matter: two worlds that are the same but for the digest of "ab" in partition
-- 0's password file, and two lists of moves that are the same but for the passwords in partition 0's logins and set-passwords. In the first world the password of
-- "ab" is "abc", and the moves change it to the empty one; in the second it is the other way round. The worlds are made by hand; no start makes them, since their
-- stores hold nothing but the password file.
use Rattle.std.specs.Prelude.{true, List, [], ◌∷◌, map, ◌≢◌, ◌≡◌, refl, ℕ, get_or}
use Rattle.std.proofs.Common.{sym, ap, ◌∙◌, arith}
use Rattle.state.specs.declared.Login.TheVariants.{Nobody, User}
use Rattle.state.specs.Parts.{is_active}
use Rattle.accounts.specs.Strings.{is_string}
use Rattle.steps.specs.World.{World, Move, Result, step, run}
use Rattle.steps.specs.World.Move.{Login, Logout, SetPassword}
use Rattle.refuted.specs.Room.{room, ab, opened}
use Rattle.refuted.specs.Alike.{Alike, AlikeMoves, blanked_at, hidden}
use Rattle.refuted.specs.Logins.{result_of, abc_text, empty_text, abc_digest, empty_digest, opened_logins, abc_right, abc_wrong, empty_right, empty_wrong, to_abc, to-empty, out}

abbrev pub first : World
first = room Nobody abc_digest

abbrev pub second : World
second = room Nobody empty_digest

-- "ab" is logged in with the old password, sets the new one and is logged out; then the old one is tried, and the new one
abbrev pub moves_with : List ℕ → List ℕ → List Move
moves_with old new = Login 0 ab old ∷ SetPassword 0 new 79 ∷ Logout 0 ∷ Login 0 ab old ∷ Login 0 ab new ∷ []

abbrev pub first_moves : List Move
first_moves = moves_with abc_text empty_text

abbrev pub second_moves : List Move
second_moves = moves_with empty_text abc_text

abbrev pub numbers : List Result → List ℕ
numbers rs = map (λ (r : Result). r.number) rs

pub record NotEmpty : Type 0 where
  -- "in one active partition's password file": in each world, file and table say the same
  pub active : is_active first.terminal.plan 0 ≡ true
  pub stored : first.store ≡ first.tables
  pub stored_too : second.store ≡ second.tables
  -- "two terminals that start alike .. except for the digests", and these differ
  pub worlds : Alike 0 first second
  pub digests : first.tables ≢ second.tables
  -- ".. and receive like events and calls, except for .. the passwords", and these differ
  pub moves : AlikeMoves 0 first_moves second_moves
  pub passwords : first_moves ≢ second_moves
  -- "each of its logins gets the same answer number": 0, then 300 for the old password, then 0 for the new one
  pub first_numbers : numbers (run first first_moves) ≡ 0 ∷ 0 ∷ 0 ∷ 300 ∷ 0 ∷ []
  pub second_numbers : numbers (run second second_moves) ≡ 0 ∷ 0 ∷ 0 ∷ 300 ∷ 0 ∷ []
  -- "each of its new passwords is allowed in both"
  pub allowed : is_string empty_text ≡ true
  pub allowed_too : is_string abc_text ≡ true

-- ---- the runs

run_on : (w : World) (m : Move) (ms : List Move) (r : Result) (rs : List Result) → step w m ≡ r → run r.world ms ≡ rs → run w (m ∷ ms) ≡ r ∷ rs
unfolding run
run_on w m ms r rs e h = rw (e, h)

run_none : (w : World) → run w [] ≡ []
unfolding run
run_none w = refl

pub first_run : run first first_moves
    ≡ result_of 0 2 (room (User 0) abc_digest) ∷ result_of 0 0 (room (User 0) empty_digest) ∷ result_of 0 0 second ∷ result_of 300 2 second ∷ result_of 0 2 (room (User 0) empty_digest) ∷ []
first_run =
    run_on _ _ _ _ _ abc_right (run_on _ _ _ _ _ to-empty (run_on _ _ _ _ _ (out empty_digest) (run_on _ _ _ _ _ abc_wrong (run_on _ _ _ _ _ empty_right (run_none _)))))

pub second_run : run second second_moves
    ≡ result_of 0 2 (room (User 0) empty_digest) ∷ result_of 0 0 (room (User 0) abc_digest) ∷ result_of 0 0 first ∷ result_of 300 2 first ∷ result_of 0 2 (room (User 0) abc_digest) ∷ []
second_run =
    run_on _ _ _ _ _ empty_right (run_on _ _ _ _ _ to_abc (run_on _ _ _ _ _ (out abc_digest) (run_on _ _ _ _ _ empty_wrong (run_on _ _ _ _ _ abc_right (run_none _)))))

-- ---- the conditions

is-active : is_active first.terminal.plan 0 ≡ true
unfolding opened
is-active = refl

same-stored : (digest : List ℕ) → (room Nobody digest).store ≡ (room Nobody digest).tables
unfolding opened
same-stored digest = refl

alike-worlds : Alike 0 first second
unfolding opened_logins blanked_at
alike-worlds = record { terminal = refl; permissions = refl; arena = refl; screens = refl; store = refl; tables = refl }

-- the first byte of the first digest
unlike_digests : first.tables ≢ second.tables
unfolding opened_logins
unlike_digests e = let same : ◌≡◌ {A = ℕ} 0xba 0xe3 = ap (λ (l : List ℕ). get_or l 6 0) e in omega arith

alike-moves : AlikeMoves 0 first_moves second_moves
unfolding hidden
alike-moves = refl

-- in the first world the second moves begin with a wrong password
unlike_moves : first_moves ≢ second_moves
unfolding run
unlike_moves e =
    let same : ◌≡◌ {A = ℕ} 0 300 =
    sym (ap (λ (r : Result). r.number) abc_right) ∙ ap (λ (ms : List Move). get_or (numbers (run first ms)) 0 0) e ∙ ap (λ (r : Result). r.number) empty_wrong in
    omega arith

abc_allowed : is_string abc_text ≡ true
unfolding opened_logins
abc_allowed = refl

empty-allowed : is_string empty_text ≡ true
unfolding opened_logins
empty-allowed = refl

pub not-empty : NotEmpty
not-empty =
    record {
      active = is-active;
      stored = same-stored abc_digest;
      stored_too = same-stored empty_digest;
      worlds = alike-worlds;
      digests = unlike_digests;
      moves = alike-moves;
      passwords = unlike_moves;
      first_numbers = ap numbers first_run;
      second_numbers = ap numbers second_run;
      allowed = empty-allowed;
      allowed_too = abc_allowed;
    }
