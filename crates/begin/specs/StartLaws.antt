-- Start, refusal by refusal: what the first that is due makes of it, and what none makes of it.
use Rattle.std.specs.Prelude.{Bool, false, ◌||◌, List, [], ◌∷◌, ◌≡◌, refl, ℕ, ◌≤◌, ltb, length, true}
use Rattle.std.proofs.Common.{sym, ◌∙◌, arith, ltb-false}
use Rattle.checks.specs.Checks.{◌when◌, after}
use Rattle.checks.specs.Laws.{not-due, after-refused}
use Rattle.checks.specs.Settle.{settle_done, settle-refused}
use Rattle.octets.specs.declared.span.Span.{Span}
use Rattle.setup.specs.declared.Setup.{Setup}
use Rattle.setup.specs.Outcomes.{Outcome}
use Rattle.setup.specs.Reading.{read, refusal, permission_table}
use Rattle.begin.specs.Files.{dseg_files, password_files}
use Rattle.octets.specs.Lists.{over}
use Rattle.state.specs.declared.Kept.{Kept}
use Rattle.state.specs.declared.Plan.{Plan}
use Rattle.state.specs.declared.State.{State}
use Rattle.begin.specs.Filled.{arena_image, tables_image, cleared}
use Rattle.begin.specs.Planned.{start_of, table_start, planned, plan_of, first_state}
use Rattle.begin.specs.Start.{Beginning, early, described, no_room, short, bad_passwords, late_checks, verdict, beginning, accepted, filled, carried_out, start}
use Rattle.begin.specs.Start.{refused as refusedStart}

-- 415 and 416, of files that were found
abbrev pub late_of : Setup → List Span → List Span → List ℕ → ℕ → ℕ → ℕ → ℕ
late_of s files passwords store arena tables screens =
    after 0 (
    (415 when no_room s files passwords arena tables screens) ∷
    (416 when bad_passwords 8 s store) ∷ [])

-- where nothing is refused there is room
module _ (s : Setup) (files passwords : List Span) (store : List ℕ) (arena tables screens : ℕ) where
  room : late_of s files passwords store arena tables screens ≡ 0 → no_room s files passwords arena tables screens ≡ false
  room e = not-due 0 415 (no_room s files passwords arena tables screens) ((416 when bad_passwords 8 s store) ∷ []) e (λ q. omega arith)

  first : (a b : Bool) → (a || b) ≡ false → a ≡ false
  first true b e = e
  first false b e = refl

  second : (a b : Bool) → (a || b) ≡ false → b ≡ false
  second true b e = cc
  second false b e = e

  pub arena-room : 0 ≡ late_of s files passwords store arena tables screens → start_of s files 32 ≤ arena
  unfolding no_room
  arena-room e = ltb-false arena (start_of s files 32) (first (ltb arena (start_of s files 32)) _ (room (sym e)))

  pub tables-room : 0 ≡ late_of s files passwords store arena tables screens → table_start passwords 8 ≤ tables
  unfolding no_room
  tables-room e =
      ltb-false tables (table_start passwords 8)
      (first (ltb tables (table_start passwords 8)) _ (second (ltb arena (start_of s files 32)) _ (room (sym e))))

-- what is left of a start where nothing of the text was refused: 415, 416, and what is written
unfoldable pub set_up : Setup → Bool → List ℕ → List ℕ → List ℕ → List ℕ → List ℕ → List (List ℕ) → Beginning
set_up s soft text store arena tables screens permissions =
    carried_out (record { number = after 0 (late_checks s text store (length arena) (length tables) (length screens)); line = 0; setup = s })
    soft text store arena tables screens permissions

module _ (soft : Bool) (text store arena tables screens : List ℕ) (permissions : List (List ℕ)) where
  module _ (s : Setup) (files passwords : List Span) (f : files ≡ dseg_files s text store) (p : passwords ≡ password_files s store)
      (n : ℕ) (late : n ≡ late_of s files passwords store (length arena) (length tables) (length screens)) where
    same_number : n ≡ after 0 (late_checks s text store (length arena) (length tables) (length screens))
    unfolding late_checks short
    same_number = rw (← f, ← p) late

    -- 415 and 416
    pub refused_late : (n ≡ 0 → ⊥) → beginning (refusedStart n 0) arena tables screens permissions
        ≡ set_up s soft text store arena tables screens permissions
    unfolding set_up carried_out
    refused_late d = rw (← same_number) (sym (settle-refused n _ _ d))

    abbrev kept : Kept
    kept = record { store = length store; arena = length arena; tables = length tables; screens = length screens }

    -- nothing refused
    pub all_filled : n ≡ 0 → (plan : Plan) → plan ≡ planned soft s files passwords kept → (state : State) → state ≡ first_state s
        → (memory users cells : List ℕ) (table : List (List ℕ)) → memory ≡ over (arena_image plan store) arena → users ≡ over (tables_image plan store) tables
        → cells ≡ cleared plan 8 screens → table ≡ permission_table s
        → beginning (accepted plan state) memory users cells table ≡ set_up s soft text store arena tables screens permissions
    unfolding set_up carried_out filled plan_of
    all_filled d plan pe state se memory users cells table me ue ce te =
        rw (← same_number, me, ue, ce, te, se, pe, f, p) (sym (settle_done n _ _ d))

  module _ (count : ℕ) (active : List Bool) where
    abbrev begun : Beginning
    begun = start count active soft text store arena tables screens permissions

    by_early : (n : ℕ) → n ≡ early count active text store → (n ≡ 0 → ⊥) → described count active text store ≡ refusal n 0
    unfolding described
    by_early n e z = rw (← e) (settle-refused n (read true store text count active) (refusal n 0) z)

    by_text : (n : ℕ) → n ≡ early count active text store → n ≡ 0 → described count active text store ≡ read true store text count active
    unfolding described
    by_text n e z = rw (← e) (settle_done n (read true store text count active) (refusal n 0) z)

    -- what refuses the text, or stands before it, refuses the start
    by_described : (o : Outcome) → described count active text store ≡ o → (o.number ≡ 0 → ⊥)
        → beginning (refusedStart o.number o.line) arena tables screens permissions ≡ begun
    unfolding start verdict carried_out
    by_described o e z =
        rw (e, after-refused o.number _ z, settle-refused o.number 0 o.line z) (sym (settle-refused o.number _ _ z))

    -- 401 to 403
    pub refused-early : (n : ℕ) → n ≡ early count active text store → (n ≡ 0 → ⊥)
        → beginning (refusedStart n 0) arena tables screens permissions ≡ begun
    refused-early n e z = by_described (refusal n 0) (by_early n e z) z

    module _ (n : ℕ) (e : n ≡ early count active text store) (z : n ≡ 0) (o : Outcome) (r : o ≡ read true store text count active) where
      -- 404 to 414
      pub refused-text : (o.number ≡ 0 → ⊥) → beginning (refusedStart o.number o.line) arena tables screens permissions ≡ begun
      refused-text d = by_described o (by_text n e z ∙ sym r) d

      good-text : o.number ≡ 0 → set_up o.setup soft text store arena tables screens permissions ≡ begun
      unfolding start set_up verdict
      good-text d = rw (by_text n e z ∙ sym r, settle_done o.number 0 o.line d, d)

      -- the text is good
      pub text-good : (b : Beginning) → o.number ≡ 0 → b ≡ set_up o.setup soft text store arena tables screens permissions → b ≡ begun
      text-good b d same = same ∙ good-text d
