-- What number 0 of a start says: nothing was refused, early, in the text or late, and everything was filled.
use Rattle.std.specs.Prelude.{Bool, true, false, not, ◌||◌, ◌≡◌, refl, ℕ, length, List, []}
use Rattle.std.proofs.Common.{sym, ◌∙◌, arith, eq-eqb}
use Rattle.std.proofs.lemmas.Bool.{false≢true, not-false}
use Rattle.checks.specs.Checks.{after}
use Rattle.checks.specs.Laws.{not-due, second-not-due}
use Rattle.checks.specs.Settle.{settle, by_settle}
use Rattle.image.specs.Image.{good}
use Rattle.setup.specs.declared.Setup.{Setup}
use Rattle.setup.specs.Outcomes.{Outcome}
use Rattle.setup.specs.Rules.{limits, bad_partitions}
use Rattle.setup.specs.Reading.{read, permission_table}
use Rattle.state.specs.declared.Kept.{Kept}
use Rattle.begin.specs.Files.{dseg_files, password_files}
use Rattle.begin.specs.Planned.{plan_of, first_state}
use Rattle.begin.specs.Start.{Beginning, early, described, no_room, short, bad_passwords, late_checks, verdict, filled, carried_out, start}
use Rattle.good.specs.PasswordMoves.{none_before}
use Rattle.started.specs.SetUp.{SetUp, read-set-up}

settle-zero : {A : Type 0} (n : ℕ) (x y : A) → n ≡ 0 → settle n x y ≡ x
unfolding settle
settle-zero n x y e = rw (eq-eqb n 0 e)

pub neither : (a b : Bool) → (a || b) ≡ false → (a ≡ false) × (b ≡ false)
neither true b e = absurd (false≢true (sym e))
neither false b e = (refl, e)

-- the lent areas' lengths
abbrev pub kept_of : List ℕ → List ℕ → List ℕ → List ℕ → Kept
kept_of store arena tables screens = record { store = length store; arena = length arena; tables = length tables; screens = length screens }

-- a set-up that nothing refused, from a count, flags, a text and areas
pub record Accepted (text store arena tables screens : List ℕ) (count : ℕ) (active : List Bool) (s : Setup) : Type 0 where
  pub set_up : SetUp text store count active s
  pub given : bad_partitions count active ≡ false
  pub image : good store ≡ true
  pub space : no_room s (dseg_files s text store) (password_files s store) (length arena) (length tables) (length screens) ≡ false
  pub readable : bad_passwords 8 s store ≡ false

-- what the text sets up
abbrev pub setup_of : ℕ → List Bool → List ℕ → List ℕ → Setup
setup_of count active text store = (read true store text count active).setup

module _ (count : ℕ) (active : List Bool) (soft : Bool) (text store arena tables screens : List ℕ) (permissions : List (List ℕ)) where
  abbrev begun : Beginning
  begun = start count active soft text store arena tables screens permissions

  abbrev s : Setup
  s = setup_of count active text store

  abbrev final : Outcome
  final = verdict count active text store (length arena) (length tables) (length screens)

  verdict-zero : begun.number ≡ 0 → final.number ≡ 0
  unfolding start carried_out
  verdict-zero =
      by_settle (λ (b : Beginning). b.number ≡ 0 → final.number ≡ 0) final.number (λ e z. e) (λ e z. z)

  described-zero : begun.number ≡ 0 → (described count active text store).number ≡ 0
  unfolding verdict
  described-zero z = none_before _ _ (verdict-zero z)

  early-zero : begun.number ≡ 0 → early count active text store ≡ 0
  unfolding described
  early-zero z =
      by_settle (λ (o : Outcome). o.number ≡ 0 → early count active text store ≡ 0) (early count active text store) (λ e k. e) (λ e k. k)
      (described-zero z)

  read-described : begun.number ≡ 0 → described count active text store ≡ read true store text count active
  unfolding described
  read-described z = settle-zero (early count active text store) _ _ (early-zero z)

  read-zero : begun.number ≡ 0 → (read true store text count active).number ≡ 0
  read-zero z = rw (read-described z) at (described-zero z)

  late_zero : begun.number ≡ 0 → after 0 (late_checks s text store (length arena) (length tables) (length screens)) ≡ 0
  unfolding verdict
  late_zero z = rw (read-described z, read-zero z) at (verdict-zero z)

  final_setup : begun.number ≡ 0 → final.setup ≡ s
  unfolding verdict
  final_setup z = rw (read-described z)

  -- everything is filled from what the text sets up
  pub all_filled : begun.number ≡ 0
      → begun ≡ filled (plan_of soft s text store (kept_of store arena tables screens)) (first_state s) (permission_table s) store arena tables screens
  unfolding start carried_out
  all_filled z = settle-zero final.number _ _ (verdict-zero z) ∙ same
    where
      same : filled (plan_of soft final.setup text store (kept_of store arena tables screens)) (first_state final.setup) (permission_table final.setup) store arena tables screens
          ≡ filled (plan_of soft s text store (kept_of store arena tables screens)) (first_state s) (permission_table s) store arena tables screens
      same = rw (final_setup z)

  -- ---- what was not refused

  image-good : begun.number ≡ 0 → good store ≡ true
  unfolding early
  image-good z = not-false (good store) (not-due (limits count active (length text)) 403 (not (good store)) [] (early-zero z) (λ q. omega arith))

  limits-zero : begun.number ≡ 0 → limits count active (length text) ≡ 0
  unfolding early
  limits-zero z = none_before (limits count active (length text)) _ (early-zero z)

  partitions-good : begun.number ≡ 0 → bad_partitions count active ≡ false
  unfolding limits
  partitions-good z = not-due 0 401 (bad_partitions count active) _ (limits-zero z) (λ q. omega arith)

  room : begun.number ≡ 0 → no_room s (dseg_files s text store) (password_files s store) (length arena) (length tables) (length screens) ≡ false
  unfolding late_checks short
  room z = not-due 0 415 _ _ (late_zero z) (λ q. omega arith)

  passwords-good : begun.number ≡ 0 → bad_passwords 8 s store ≡ false
  unfolding late_checks
  passwords-good z = second-not-due 0 416 _ (bad_passwords 8 s store) [] (late_zero z) (λ q. omega arith)

  pub accepted : begun.number ≡ 0 → Accepted text store arena tables screens count active s
  accepted z =
      record {
        set_up = read-set-up text store count active (read-zero z);
        given = partitions-good z;
        image = image-good z;
        space = room z;
        readable = passwords-good z;
      }
