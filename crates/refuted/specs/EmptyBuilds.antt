-- Document 01, "What each call must commit to": "Four empty builds have to be rejected: one answering 212 to everything, one logging everyone in, one that changes
-- nothing, one that obeys only its first call. .. Demand 2 also shuts out a made-up work count". Each of the five differs from the definitions in a run of one or
-- two moves, and so does every other build that shares its fault.
use Rattle.std.specs.Prelude.{Bool, true, false, List, [], ◌∷◌, map, ◌≡◌, refl, ℕ}
use Rattle.std.proofs.Common.{sym, ap, ◌∙◌, arith}
use Rattle.std.proofs.lemmas.Bool.{false≢true}
use Rattle.state.specs.declared.Login.TheVariants.{Nobody, User}
use Rattle.accounts.specs.Users.{is_user}
use Rattle.accounts.specs.Login.{user}
use Rattle.terminal.specs.Terminal.{record_of, with_record}
use Rattle.promises.specs.Refusals.{buffer_of}
use Rattle.steps.specs.World.{World, Move, Result, with_terminal, step, run}
use Rattle.steps.specs.World.Move.{Login, Logout, Shutdown}
use Rattle.refuted.specs.Build.{Build, Meets, MeetsRuns, save_login, saving}
use Rattle.refuted.specs.Room.{room, sevens, x, opened}

-- the worlds of the runs: nobody is logged in; "ab" is logged in at partition 0
abbrev fresh : World
fresh = room Nobody sevens

abbrev taken : World
taken = room (User 0) sevens

-- ---- "one answering 212 to everything"

unfoldable pub answers212 : Build
answers212 w m = record { number = 212; count = 0; buffer = buffer_of m; world = w }

-- the fault, whatever else the build does
abbrev pub Answers212 : Build → Type 0
Answers212 build = (w : World) (m : Move) → (build w m).number ≡ 212

-- the run: partition 0 logs out, and is answered 0
logout_succeeds : (step fresh (Logout 0)).number ≡ 0
unfolding opened
logout_succeeds = refl

pub no_answers212 : (build : Build) → Answers212 build → Meets build → ⊥
no_answers212 build says meets =
    let e : ◌≡◌ {A = ℕ} 212 0 = sym (says fresh (Logout 0)) ∙ ap (λ (r : Result). r.number) (meets fresh (Logout 0)) ∙ logout_succeeds in omega arith

pub answers212_refuted : Meets answers212 → ⊥
unfolding answers212
answers212_refuted = no_answers212 answers212 (λ w m. refl)

-- ---- "one logging everyone in"

-- every login is answered 0, and the first account is logged in
unfoldable pub logs_everyone_in : Build
logs_everyone_in = save_login (λ w p name password.
    record { number = 0; count = (step w (Login p name password)).count; buffer = []; world = with_terminal (with_record p (user 0) w.terminal) w })

abbrev pub LogsEveryoneIn : Build → Type 0
LogsEveryoneIn build = (w : World) (p : ℕ) (name password : List ℕ) → (build w (Login p name password)).number ≡ 0

-- the run: at partition 0, where there is no account "x", "x" asks to be logged in with the password "x", and is answered 300
stranger_refused : (step fresh (Login 0 x x)).number ≡ 300
unfolding opened
stranger_refused = refl

pub no_logs_everyone_in : (build : Build) → LogsEveryoneIn build → Meets build → ⊥
no_logs_everyone_in build says meets =
    let e : ◌≡◌ {A = ℕ} 0 300 = sym (says fresh 0 x x) ∙ ap (λ (r : Result). r.number) (meets fresh (Login 0 x x)) ∙ stranger_refused in omega arith

pub logs_everyone_in_refuted : Meets logs_everyone_in → ⊥
unfolding logs_everyone_in saving
logs_everyone_in_refuted = no_logs_everyone_in logs_everyone_in (λ w p name password. refl)

-- ---- "one that changes nothing"

-- numbers, counts and buffers are right, and the world is as it was
unfoldable pub changes_nothing : Build
changes_nothing w m = record { number = (step w m).number; count = (step w m).count; buffer = (step w m).buffer; world = w }

abbrev pub ChangesNothing : Build → Type 0
ChangesNothing build = (w : World) (m : Move) → (build w m).world ≡ w

-- somebody is logged in at partition 0
abbrev someone : World → Bool
someone w = is_user (record_of w.terminal 0).user

-- the run: "ab", who is logged in at partition 0, logs out, and nobody is logged in there then
logged_in_lem : someone taken ≡ true
unfolding opened
logged_in_lem = refl

logged_out : someone (step taken (Logout 0)).world ≡ false
unfolding opened
logged_out = refl

pub no_changes_nothing : (build : Build) → ChangesNothing build → Meets build → ⊥
no_changes_nothing build says meets =
    false≢true (sym logged_out ∙ ap (λ (r : Result). someone r.world) (sym (meets taken (Logout 0))) ∙ ap someone (says taken (Logout 0)) ∙ logged_in_lem)

pub changes_nothing_refuted : Meets changes_nothing → ⊥
unfolding changes_nothing
changes_nothing_refuted = no_changes_nothing changes_nothing (λ w m. refl)

-- ---- "one that obeys only its first call"

-- later moves are answered 0 and change nothing
unfoldable pub idles : World → Move → Result
idles w m = record { number = 0; count = 0; buffer = buffer_of m; world = w }

unfoldable pub obeys_once : World → List Move → List Result
obeys_once w [] = []
obeys_once w (m ∷ ms) = step w m ∷ map (idles (step w m).world) ms

-- the fault: whatever the second of two moves is answered, the world after it is the world before it
abbrev pub ObeysOnce : (World → List Move → List Result) → Type 0
ObeysOnce build = (w : World) (m n : Move) → map (λ (r : Result). r.world) (build w (m ∷ n ∷ [])) ≡ (step w m).world ∷ (step w m).world ∷ []

-- the terminal is stopped in the last of these worlds
unfoldable stopped_at : List World → Bool
stopped_at [] = false
stopped_at (w ∷ []) = w.terminal.state.stopped
stopped_at (w ∷ v ∷ ws) = stopped_at (v ∷ ws)

-- the run: partition 0 logs out, then partition 1 shuts the terminal down, and the terminal is stopped then
runs_on : stopped_at ((step fresh (Logout 0)).world ∷ (step fresh (Logout 0)).world ∷ []) ≡ false
unfolding opened stopped_at
runs_on = refl

stops : stopped_at (map (λ (r : Result). r.world) (run fresh (Logout 0 ∷ Shutdown 1 [] ∷ []))) ≡ true
unfolding opened stopped_at
stops = refl

pub no_obeys_once : (build : World → List Move → List Result) → ObeysOnce build → MeetsRuns build → ⊥
no_obeys_once build says meets =
    false≢true
    (sym runs_on
    ∙ ap stopped_at (sym (says fresh (Logout 0) (Shutdown 1 [])))
    ∙ ap (λ (rs : List Result). stopped_at (map (λ (r : Result). r.world) rs)) (meets fresh (Logout 0 ∷ Shutdown 1 [] ∷ []))
    ∙ stops)

pub obeys_once_refuted : MeetsRuns obeys_once → ⊥
unfolding obeys_once idles
obeys_once_refuted = no_obeys_once obeys_once (λ w m n. refl)

-- ---- "a made-up work count"

-- every login's count is 1
unfoldable pub made_up_count : Build
made_up_count = save_login (λ w p name password.
    let r = step w (Login p name password) in record { number = r.number; count = 1; buffer = r.buffer; world = r.world })

-- the fault: one number is every login's count
abbrev pub MadeUpCount : ℕ → Build → Type 0
MadeUpCount n build = (w : World) (p : ℕ) (name password : List ℕ) → (build w (Login p name password)).count ≡ n

-- the runs: "x" asks to be logged in at partition 0, where two records are read and there is no such name; and at partition 1, where there are no records
two-read : (step fresh (Login 0 x x)).count ≡ 2
unfolding opened
two-read = refl

none_read : (step fresh (Login 1 x x)).count ≡ 0
unfolding opened
none_read = refl

pub no_made_up_count : (n : ℕ) (build : Build) → MadeUpCount n build → Meets build → ⊥
no_made_up_count n build says meets =
    let a : n ≡ 2 = sym (says fresh 0 x x) ∙ ap (λ (r : Result). r.count) (meets fresh (Login 0 x x)) ∙ two-read in
    let b : n ≡ 0 = sym (says fresh 1 x x) ∙ ap (λ (r : Result). r.count) (meets fresh (Login 1 x x)) ∙ none_read in
    omega arith

pub made_up_count_refuted : Meets made_up_count → ⊥
unfolding made_up_count saving
made_up_count_refuted = no_made_up_count 1 made_up_count (λ w p name password. refl)
