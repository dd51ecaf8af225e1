-- The plan and the first state of an accepted start pass the state test.
use Rattle.std.specs.Prelude.{Bool, false, not, cond, ◌&&◌, ◌||◌, List, ◌++◌, ◌≡◌, ltb, length, take, get_or, replicate, true, refl, ℕ, zero, suc, ◌+◌, ◌-◌, ◌*◌, ◌≤◌, ◌<◌, min, leb, Some}
use Rattle.std.proofs.Common.{sym, ◌∙◌, length-take, get_or-take, arith, ltb-true, ltb-false, lt-ltb, leb-true, le-leb}
use Rattle.std.proofs.Math.Bool.{and-eq-true_iff}
use Rattle.std.proofs.Math.Decide.{dec_le}
use Rattle.std.proofs.Math.ListN.{get_or-append, get_or-eq_default}
use Rattle.std.proofs.lemmas.Bool.{false≢true, not-false}
use Rattle.devices.specs.Queue.{no_keys}
use Rattle.devices.specs.Choice.{by_cond}
use Rattle.rows.specs.LikeLaws.{by_test}
use Rattle.image.specs.Image.{spot, file, was_found}
use Rattle.image.specs.SpotLaws.{spot-inside}
use Rattle.passwords.specs.PasswordFile.{well_formed}
use Rattle.octets.specs.declared.span.Span.{Span}
use Rattle.setup.specs.declared.Setup.{Setup}
use Rattle.octets.specs.Spans.{no_span, span, bytes_of}
use Rattle.setup.specs.Setup.{begun}
use Rattle.setup.specs.Setup.{is_active as activeOf, no_segment as undeclared}
use Rattle.setup.specs.Rules.{some_active}
use Rattle.state.specs.declared.Kept.{Kept}
use Rattle.state.specs.declared.Segment.{Segment}
use Rattle.state.specs.declared.Plan.{Plan}
use Rattle.state.specs.Empty.{no_segment, no_partition}
use Rattle.state.specs.Parts.{is_active}
use Rattle.guard.specs.Test.{all_of, inside, good_segment, good_seat, good_partition, good_counts, good_plan, good}
use Rattle.begin.specs.Files.{password_path, dseg_files, password_files}
use Rattle.begin.specs.Planned.{path_of, size_of, start_of, dseg_of, mseg_of, segment_of, table_start, seat_of, planned, lowest, first_state}
use Rattle.begin.specs.Start.{no_room, bad_file}
use Rattle.started.specs.Accepted.{Accepted, neither, kept_of}
use Rattle.started.specs.SetUp.{SetUp}
use Rattle.started.specs.Rows.{all_firsts, total-below}
use Rattle.started.specs.Titles.{spot-behind}
use Rattle.started.specs.Plan.{plan, password_good, found-span, active_eight, plan-active, password_at, file-found}

-- a span inside an area
is-inside : (x : Span) (area : ℕ) → x.place + x.length ≤ area → inside x area ≡ true
unfolding inside
is-inside x area h = le-leb (x.place + x.length) area h

none_inside : (area : ℕ) → inside no_span area ≡ true
none_inside area = is-inside no_span area (omega arith)

-- ---- the lowest active partition

lowest-active : (n p q : ℕ) (s : Setup) → p ≤ q → q < p + n → activeOf s q ≡ true → activeOf s (lowest n s p) ≡ true
unfolding lowest
lowest-active zero p q s low high a = absurd (let f : ⊥ = omega arith in f)
lowest-active (suc n) p q s low high a = go (activeOf s p) refl (lowest-active n (p + 1) q s)
  where
    go : (t : Bool) → activeOf s p ≡ t → (p + 1 ≤ q → q < p + 1 + n → activeOf s q ≡ true → activeOf s (lowest n s (p + 1)) ≡ true)
        → activeOf s (cond t p (lowest n s (p + 1))) ≡ true
    go true e rest = e
    go false e rest = rest (other (dec_le q p)) (omega arith) a
      where
        other : Dec (q ≤ p) → p + 1 ≤ q
        other (yes h) = let same : p ≡ q = omega arith in absurd (false≢true (sym e ∙ rw same a))
        other (no h) = omega arith

-- ---- some partition is active

some_flag : (n : ℕ) (active : List Bool) → some_active n active ≡ true → (q : ℕ) × (q < n) × (get_or active q false ≡ true)
unfolding some_active
some_flag zero active e = absurd (false≢true e)
some_flag (suc n) active e = go (get_or active n false) refl e (some_flag n active)
  where
    go : (t : Bool) → get_or active n false ≡ t → (t || some_active n active) ≡ true
        → (some_active n active ≡ true → (q : ℕ) × (q < n) × (get_or active q false ≡ true)) → (q : ℕ) × (q < suc n) × (get_or active q false ≡ true)
    go true f k rest = (n, omega arith, f)
    go false f k rest = let r = rest k in let low = r.1 in (r.0, omega arith, r.2)

-- a flag of a partition is kept
pub flag_kept : (count : ℕ) (active : List Bool) (q : ℕ) → q < min count 8 → get_or active q false ≡ true → get_or (begun count active).active q false ≡ true
unfolding begun
flag_kept count active q h e = go (dec_le (length active) q)
  where
    go : Dec (length active ≤ q) → get_or (take (min count 8) active ++ replicate (8 - min count 8) false) q false ≡ true
    go (yes k) = absurd (false≢true (sym (get_or-eq_default active false k) ∙ e))
    go (no k) =
        let low : q < length (take (min count 8) active) = rw length-take (omega arith) in
        get_or-append (take (min count 8) active) (replicate (8 - min count 8) false) false q low ∙ get_or-take (min count 8) active q false h ∙ e

module _ (soft : Bool) (text store arena tables screens : List ℕ) (count : ℕ) (active : List Bool) (s : Setup)
    (ok : Accepted text store arena tables screens count active s) where
  abbrev k : SetUp text store count active s
  k = ok.set_up

  abbrev files : List Span
  files = dseg_files s text store

  abbrev passwords : List Span
  passwords = password_files s store

  abbrev kept : Kept
  kept = kept_of store arena tables screens

  abbrev the_plan : Plan
  the_plan = plan soft s text store kept

  -- ---- what was given, and the room

  pub some-count : (1 ≤ count) × (count ≤ 8)
  some-count =
      let both = not-false (leb 1 count && leb count 8) (neither (not (leb 1 count && leb count 8)) (not (some_active count active)) ok.given).0 in
      let each = (and-eq-true_iff (leb 1 count) (leb count 8)).0 both in
      (leb-true 1 count each.0, leb-true count 8 each.1)

  one-active : (q : ℕ) × (activeOf s q ≡ true)
  unfolding activeOf
  one-active =
      let f = some_flag count active (not-false (some_active count active) (neither (not (leb 1 count && leb count 8)) (not (some_active count active)) ok.given).1) in
      let e = k.partitions in
      let c = some-count in
      let low : f.0 < min count 8 = let h = f.1 in omega arith in
      (f.0, rw (lt-ltb f.0 s.partitions (omega arith), k.flags) (flag_kept count active f.0 low f.2))

  abbrev too_big : Bool
  too_big = ltb (length arena) (start_of s files 32)

  abbrev too_long : Bool
  too_long = ltb (length tables) (table_start passwords 8)

  abbrev too_many : Bool
  too_many = ltb (length screens) (2000 * s.partitions)

  arena-room : start_of s files 32 ≤ length arena
  unfolding no_room
  arena-room = ltb-false (length arena) (start_of s files 32) (neither too_big (too_long || too_many) ok.space).0

  pub tables-room : table_start passwords 8 ≤ length tables
  unfolding no_room
  tables-room = ltb-false (length tables) (table_start passwords 8) (neither too_long too_many (neither too_big (too_long || too_many) ok.space).1).0

  screens-room : 2000 * s.partitions ≤ length screens
  unfolding no_room
  screens-room = ltb-false (length screens) (2000 * s.partitions) (neither too_long too_many (neither too_big (too_long || too_many) ok.space).1).1

  -- ---- password files

  pub password_fits : (p : ℕ) → activeOf s p ≡ true → (was_found (spot (password_path p) store) ≡ true) × (well_formed (file (password_path p) store) ≡ true)
  unfolding bad_file
  password_fits p a =
      let b = password_good 8 p s store ok.readable (active_eight soft text store kept count active s k p a) a in
      let both = neither (not (was_found (spot (password_path p) store))) (not (well_formed (file (password_path p) store))) b in
      (not-false (was_found (spot (password_path p) store)) both.0, not-false (well_formed (file (password_path p) store)) both.1)

  pub password_spot : (p : ℕ) → activeOf s p ≡ true → spot (password_path p) store ≡ Some (span (get_or passwords p no_span).place (get_or passwords p no_span).length)
  password_spot p a =
      rw (password_at soft text store kept count active s k p a) (found-span (spot (password_path p) store) (password_fits p a).0)

  -- ---- the seats

  table-inside : (p : ℕ) → p < 8 → table_start passwords p + (get_or passwords p no_span).length ≤ length tables
  unfolding table_start
  table-inside p h =
      let b = total-below (λ q. (get_or passwords q no_span).length) 8 p h in
      let r = tables-room in
      omega arith

  seat_good : (p : ℕ) → p < 8 → good_seat kept (seat_of s passwords p) ≡ true
  unfolding good_seat seat_of
  seat_good p h =
      by_test (activeOf s p)
      (λ a.
      rw (
        a,
        is-inside (span (table_start passwords p) (get_or passwords p no_span).length) (length tables) (table-inside p h),
        is-inside (get_or passwords p no_span) (length store) (spot-inside store (password_path p) _ _ (password_spot p a)),
      ))
      (λ a. rw (a, none_inside (length tables), none_inside (length store)))

  -- ---- the segments

  memory_inside : (row : ℕ) → row < 32 → start_of s files row + size_of s files row ≤ length arena
  unfolding start_of
  memory_inside row h =
      let b = total-below (size_of s files) 32 row h in
      let r = arena-room in
      omega arith

  memory_good : (row : ℕ) → row < 32 → inside (span (start_of s files row) (size_of s files row)) (length arena) ≡ true
  memory_good row h = is-inside (span (start_of s files row) (size_of s files row)) (length arena) (memory_inside row h)

  abbrev path_at : ℕ → List ℕ
  path_at row = bytes_of text (get_or s.dsegs row undeclared).path

  -- a declared dseg's path stands before its file, in the store
  pub path-behind : (row : ℕ) → row < s.dsegcount → 7 + (get_or s.dsegs row undeclared).path.length ≤ (get_or files row no_span).place
  path-behind row h =
      let b = spot-behind (path_at row) store _ _ (file-found soft text store kept count active s k row h) in
      let e = (k.declared row h).long in
      omega arith

  file-inside : (row : ℕ) → row < s.dsegcount → (get_or files row no_span).place + (get_or files row no_span).length ≤ length store
  file-inside row h = spot-inside store (path_at row) _ _ (file-found soft text store kept count active s k row h)

  dseg-good : (row : ℕ) → row < s.dsegcount → good_segment kept (dseg_of s files row) ≡ true
  unfolding good_segment dseg_of path_of
  dseg-good row h =
      let few = k.dsegs_few in
      let b = path-behind row h in
      let f = file-inside row h in
      let n : ℕ = (get_or s.dsegs row undeclared).path.length in
      rw (
        memory_good row (omega arith),
        is-inside (get_or files row no_span) (length store) f,
        is-inside (span ((get_or files row no_span).place - n) n) (length store) (omega arith),
      )

  mseg-good : (row : ℕ) → row < 32 → good_segment kept (mseg_of s files row) ≡ true
  unfolding good_segment mseg_of
  mseg-good row h = rw (memory_good row h, none_inside (length store))

  empty-good : good_segment kept no_segment ≡ true
  unfolding good_segment
  empty-good = rw (none_inside (length arena), none_inside (length store))

  segment_good : (row : ℕ) → row < 32 → good_segment kept (segment_of s files row) ≡ true
  unfolding segment_of
  segment_good row h =
      by_cond Fine (ltb row 16)
      (λ a. by_cond Fine (ltb row s.dsegcount) (λ e. dseg-good row (ltb-true row s.dsegcount e)) (λ e. empty-good))
      (λ a. by_cond Fine (ltb (row - 16) s.msegcount) (λ e. mseg-good row h) (λ e. empty-good))
    where
      Fine : Segment → Type 0
      Fine x = good_segment kept x ≡ true

  -- ---- the whole

  counts-good : good_counts the_plan ≡ true
  unfolding good_counts planned
  counts-good =
      let c = some-count in
      let e = k.partitions in
      rw (
        le-leb 1 s.partitions (omega arith),
        le-leb s.partitions 8 (omega arith),
        le-leb s.dsegcount 16 k.dsegs_few,
        le-leb s.msegcount 16 k.msegs_few,
      )

  plan-good : good_plan the_plan ≡ true
  unfolding good_plan planned
  plan-good =
      rw (
        counts-good,
        le-leb (2000 * s.partitions) (length screens) screens-room,
        all_firsts (good_seat kept) (seat_of s passwords) 8 seat_good,
        all_firsts (good_segment kept) (segment_of s files) 32 segment_good,
      )

  focus-active : is_active the_plan (lowest 8 s 0) ≡ true
  focus-active =
      let q = one-active in
      let low = active_eight soft text store kept count active s k q.0 q.1 in
      rw (plan-active soft text store kept count active s k (lowest 8 s 0)) (lowest-active 8 0 q.0 s (omega arith) (omega arith) q.1)

  parts-good : all_of good_partition (replicate 8 no_partition) ≡ true
  unfolding all_of good_partition no_keys
  parts-good = refl

  -- the state test
  pub tested : good the_plan (first_state s) ≡ true
  unfolding good first_state
  tested = rw (plan-good, focus-active, parts-good)
