-- The plan of an accepted set-up: who is active, and where files, tables and segments stand.
use Rattle.std.specs.Prelude.{Bool, false, ◌&&◌, List, ◌≡◌, refl, ℕ, zero, suc, ◌-◌, ◌≤◌, ◌<◌, ltb, get_or, true, length, Option, Some, None}
use Rattle.std.proofs.Common.{not-suc-le-zero, arith, ltb-true, lt-ltb, le-ltb}
use Rattle.std.proofs.Math.Bool.{and-false, and-eq-true_iff}
use Rattle.std.proofs.Math.Decide.{dec_le}
use Rattle.std.proofs.lemmas.Bool.{false≢true}
use Rattle.rows.specs.LikeLaws.{by_test}
use Rattle.devices.specs.Choice.{by_cond}
use Rattle.image.specs.Image.{spot, was_found}
use Rattle.octets.specs.declared.span.Span.{Span}
use Rattle.setup.specs.declared.Setup.{Setup}
use Rattle.octets.specs.Spans.{no_span, span, bytes_of}
use Rattle.setup.specs.Setup.{is_active as activeOf, no_segment as undeclared}
use Rattle.state.specs.declared.Kept.{Kept}
use Rattle.state.specs.declared.Plan.{Plan}
use Rattle.state.specs.declared.Segment.{Segment}
use Rattle.state.specs.Empty.{no_seat, no_segment}
use Rattle.state.specs.Parts.{is_active, seat_at, segment_at}
use Rattle.state.specs.PartsLaws.{segment_out}
use Rattle.begin.specs.EachLaws.{length-firsts, get_or-firsts}
use Rattle.begin.specs.Files.{password_path, span_of, dseg_file, dseg_files, password_file, password_files}
use Rattle.begin.specs.Planned.{dseg_of, mseg_of, segment_of, table_start, seat_of, planned}
use Rattle.begin.specs.Start.{bad_file, bad_passwords}
use Rattle.started.specs.Accepted.{neither}
use Rattle.started.specs.SetUp.{SetUp}

-- ---- files that were found

-- a file that was found stands where its span says
pub found-span : (f : Option Span) → was_found f ≡ true → f ≡ Some (span (span_of f).place (span_of f).length)
unfolding was_found span_of
found-span (Some s) e = refl
found-span None e = absurd (false≢true e)

-- no bad password file among the first n
pub password_good : (n p : ℕ) (s : Setup) (store : List ℕ) → bad_passwords n s store ≡ false → p < n → activeOf s p ≡ true → bad_file (password_path p) store ≡ false
unfolding bad_passwords
password_good zero p s store e h a = absurd (not-suc-le-zero h)
password_good (suc n) p s store e h a =
    let both = neither (activeOf s n && bad_file (password_path n) store) (bad_passwords n s store) e in
    go both.0 (password_good n p s store both.1) (dec_le n p)
  where
    good-one : (x y : Bool) → (x && y) ≡ false → x ≡ true → y ≡ false
    good-one true y f t = f
    good-one false y f t = absurd (false≢true t)

    go : (activeOf s n && bad_file (password_path n) store) ≡ false → (p < n → activeOf s p ≡ true → bad_file (password_path p) store ≡ false) → Dec (n ≤ p)
        → bad_file (password_path p) store ≡ false
    go last rest (yes k) =
        let same : n ≡ p = omega arith in
        good-one (activeOf s p) (bad_file (password_path p) store) (rw same at last) a
    go last rest (no k) = rest (omega arith) a

-- what start fixes
abbrev pub plan : Bool → Setup → List ℕ → List ℕ → Kept → Plan
plan soft s text store kept = planned soft s (dseg_files s text store) (password_files s store) kept

module _ (soft : Bool) (text store : List ℕ) (kept : Kept) (count : ℕ) (active : List Bool) (s : Setup) (k : SetUp text store count active s) where
  abbrev files : List Span
  files = dseg_files s text store

  abbrev passwords : List Span
  passwords = password_files s store

  abbrev the_plan : Plan
  the_plan = plan soft s text store kept

  few : s.partitions ≤ 8
  few = let e = k.partitions in omega arith

  -- ---- partitions

  pub active-low : (p : ℕ) → activeOf s p ≡ true → p < s.partitions
  unfolding activeOf
  active-low p a = ltb-true p s.partitions ((and-eq-true_iff (ltb p s.partitions) (get_or s.active p false)).0 a).0

  pub active_eight : (p : ℕ) → activeOf s p ≡ true → p < 8
  active_eight p a = let h = active-low p a in let f = few in omega arith

  pub seat_at_lem : (p : ℕ) → p < 8 → seat_at the_plan p ≡ seat_of s passwords p
  unfolding seat_at planned
  seat_at_lem p h = get_or-firsts (seat_of s passwords) 8 p no_seat h

  pub seat_active : (p : ℕ) → activeOf s p ≡ true
      → seat_at the_plan p ≡ record { active = true; table = span (table_start passwords p) (get_or passwords p no_span).length; file = get_or passwords p no_span }
  unfolding seat_of
  seat_active p a = rw (seat_at_lem p (active_eight p a), a)

  pub seat_passive : (p : ℕ) → p < 8 → activeOf s p ≡ false → seat_at the_plan p ≡ no_seat
  unfolding seat_of
  seat_passive p h a = rw (seat_at_lem p h, a)

  -- who is active in the plan was active in the set-up
  pub plan-active : (p : ℕ) → is_active the_plan p ≡ activeOf s p
  unfolding is_active planned
  plan-active p = by_test (activeOf s p) is-active (λ a. not-active a (dec_le 8 p))
    where
      is-active : activeOf s p ≡ true → (ltb p s.partitions && (seat_at the_plan p).active) ≡ activeOf s p
      is-active a = rw (a, lt-ltb p s.partitions (active-low p a), seat_active p a)

      not-active : activeOf s p ≡ false → Dec (8 ≤ p) → (ltb p s.partitions && (seat_at the_plan p).active) ≡ activeOf s p
      not-active a (yes h) = let f = few in rw (a, le-ltb p s.partitions (omega arith))
      not-active a (no h) = rw (a, seat_passive p (omega arith) a) (and-false (ltb p s.partitions))

  pub password_at : (p : ℕ) → activeOf s p ≡ true → get_or passwords p no_span ≡ span_of (spot (password_path p) store)
  unfolding password_files password_file
  password_at p a = rw (get_or-firsts (password_file s store) 8 p no_span (active_eight p a), a)

  pub password_none : (p : ℕ) → p < 8 → activeOf s p ≡ false → get_or passwords p no_span ≡ no_span
  unfolding password_files password_file
  password_none p h a = rw (get_or-firsts (password_file s store) 8 p no_span h, a)

  -- ---- segments

  abbrev path_at : ℕ → List ℕ
  path_at row = bytes_of text (get_or s.dsegs row undeclared).path

  pub segment_at_lem : (row : ℕ) → row < 32 → segment_at the_plan row ≡ segment_of s files row
  unfolding segment_at planned
  segment_at_lem row h = get_or-firsts (segment_of s files) 32 row no_segment h

  -- an mseg, and what is not declared, has no path
  no_path : (row : ℕ) → 16 ≤ row → (segment_of s files row).path.length ≡ 0
  unfolding segment_of mseg_of
  no_path row h =
      rw (le-ltb row 16 h) (by_cond (λ (x : Segment). x.path.length ≡ 0) (ltb (row - 16) s.msegcount) (λ e. refl) (λ e. refl))

  pub untitled-at : (row : ℕ) → 16 ≤ row → (segment_at the_plan row).path.length ≡ 0
  unfolding planned
  untitled-at row h = go (dec_le 32 row)
    where
      go : Dec (32 ≤ row) → (segment_at the_plan row).path.length ≡ 0
      go (yes l) =
          let long : length the_plan.segments ≤ row = rw (length-firsts (segment_of s files) 32) l in
          rw (← segment_out the_plan row long)
      go (no l) = rw (segment_at_lem row (omega arith)) (no_path row h)

  pub dseg-at : (row : ℕ) → row < s.dsegcount → segment_of s files row ≡ dseg_of s files row
  unfolding segment_of
  dseg-at row h = let few = k.dsegs_few in let low : row < 16 = omega arith in rw (lt-ltb row 16 low, lt-ltb row s.dsegcount h)

  pub file-at : (row : ℕ) → row < s.dsegcount → get_or files row no_span ≡ span_of (spot (path_at row) store)
  unfolding dseg_files dseg_file
  file-at row h =
      let few = k.dsegs_few in
      let low : row < 16 = omega arith in
      rw (get_or-firsts (dseg_file s text store) 16 row no_span low, lt-ltb row s.dsegcount h)

  pub file-found : (row : ℕ) → row < s.dsegcount → spot (path_at row) store ≡ Some (span (get_or files row no_span).place (get_or files row no_span).length)
  file-found row h = rw (file-at row h) (found-span (spot (path_at row) store) (k.declared row h).there)
