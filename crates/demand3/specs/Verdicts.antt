-- Start's verdict and what start fixes hang on no digest.
use Rattle.std.specs.Prelude.{Bool, true, List, ◌≡◌, refl, ℕ, zero, suc}
use Rattle.statements.specs.Statements.{statement_at}
use Rattle.statements.specs.declared.Statement.{Statement}
use Rattle.statements.specs.declared.Statement.TheVariants.{Code, Dseg, Mseg, Malformed}
use Rattle.text.specs.Gaps.{token_place}
use Rattle.setup.specs.declared.Setup.{Setup}
use Rattle.setup.specs.Setup.{begun}
use Rattle.setup.specs.Rules.{absent, code_checks, dseg_checks}
use Rattle.setup.specs.Reading.{judged, judged_at, read_from, read}
use Rattle.state.specs.declared.Kept.{Kept}
use Rattle.begin.specs.Each.{firsts}
use Rattle.begin.specs.Files.{password_path, dseg_file, password_file, dseg_files, password_files}
use Rattle.begin.specs.Planned.{plan_of}
use Rattle.begin.specs.Start.{early, described, short, bad_file, bad_passwords, late_checks, verdict}
use Rattle.demand3.specs.Images.{mask_image}
use Rattle.demand3.specs.ImageLaws.{spot-image, good-image, formed-image}

module _ (q : ℕ) (store : List ℕ) where
  -- ---- the text

  absent_masked : (path : List ℕ) → absent true (mask_image q store) path ≡ absent true store path
  unfolding absent
  absent_masked path = rw (spot-image q store path)

  judged_masked : (text : List ℕ) (p rank : ℕ) (s : Setup) (st : Statement) → judged true (mask_image q store) text p rank s st ≡ judged true store text p rank s st
  unfolding judged code_checks dseg_checks
  judged_masked text p rank s (Code partition path next) = rw (absent_masked _)
  judged_masked text p rank s (Dseg index path grants next) = rw (absent_masked _)
  judged_masked text p rank s (Mseg index size grants next) = refl
  judged_masked text p rank s Malformed = refl

  at_masked : (text : List ℕ) (at rank : ℕ) (s : Setup) → judged_at true (mask_image q store) text at rank s ≡ judged_at true store text at rank s
  unfolding judged_at
  at_masked text at rank s = judged_masked text (token_place text at) rank s (statement_at text at)

  from_masked : (text : List ℕ) (n at rank : ℕ) (s : Setup) → read_from true (mask_image q store) text n at rank s ≡ read_from true store text n at rank s
  unfolding read_from
  from_masked text zero at rank s = refl
  from_masked text (suc n) at rank s = rw (at_masked text at rank s, from_masked text n _ _ _)

  pub read_masked : (text : List ℕ) (count : ℕ) (active : List Bool) → read true (mask_image q store) text count active ≡ read true store text count active
  unfolding read
  read_masked text count active = from_masked text 41 0 0 (begun count active)

  -- ---- places

  firsts_same : {A : Type 0} (f g : ℕ → A) → ((i : ℕ) → f i ≡ g i) → (n : ℕ) → firsts f n ≡ firsts g n
  unfolding firsts
  firsts_same f g same zero = refl
  firsts_same f g same (suc n) = rw (firsts_same f g same n, same n)

  pub dsegs_masked : (s : Setup) (text : List ℕ) → dseg_files s text (mask_image q store) ≡ dseg_files s text store
  unfolding dseg_files dseg_file
  dsegs_masked s text = firsts_same _ _ one 16
    where
      one : (i : ℕ) → dseg_file s text (mask_image q store) i ≡ dseg_file s text store i
      one i = rw (spot-image q store _)

  pub passwords_masked : (s : Setup) → password_files s (mask_image q store) ≡ password_files s store
  unfolding password_files password_file
  passwords_masked s = firsts_same _ _ one 8
    where
      one : (p : ℕ) → password_file s (mask_image q store) p ≡ password_file s store p
      one p = rw (spot-image q store _)

  pub plan_masked : (soft : Bool) (s : Setup) (text : List ℕ) (kept : Kept) → plan_of soft s text (mask_image q store) kept ≡ plan_of soft s text store kept
  unfolding plan_of
  plan_masked soft s text kept = rw (dsegs_masked s text, passwords_masked s)

  -- ---- the refusals

  early_masked : (count : ℕ) (active : List Bool) (text : List ℕ) → early count active text (mask_image q store) ≡ early count active text store
  unfolding early
  early_masked count active text = rw (good-image q store)

  described_masked : (count : ℕ) (active : List Bool) (text : List ℕ) → described count active text (mask_image q store) ≡ described count active text store
  unfolding described
  described_masked count active text = rw (early_masked count active text, read_masked text count active)

  short_masked : (s : Setup) (text : List ℕ) (arena tables screens : ℕ) → short s text (mask_image q store) arena tables screens ≡ short s text store arena tables screens
  unfolding short
  short_masked s text arena tables screens = rw (dsegs_masked s text, passwords_masked s)

  file_masked : (p : ℕ) → bad_file (password_path p) (mask_image q store) ≡ bad_file (password_path p) store
  unfolding bad_file
  file_masked p = rw (spot-image q store (password_path p), formed-image q store p)

  bad_masked : (n : ℕ) (s : Setup) → bad_passwords n s (mask_image q store) ≡ bad_passwords n s store
  unfolding bad_passwords
  bad_masked zero s = refl
  bad_masked (suc n) s = rw (file_masked n, bad_masked n s)

  -- number, line and set-up
  pub verdict_masked : (count : ℕ) (active : List Bool) (text : List ℕ) (arena tables screens : ℕ)
      → verdict count active text (mask_image q store) arena tables screens ≡ verdict count active text store arena tables screens
  unfolding verdict late_checks
  verdict_masked count active text arena tables screens =
      rw (described_masked count active text, short_masked _ text arena tables screens, bad_masked 8 _)
