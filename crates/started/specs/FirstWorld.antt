-- The world that an accepted set-up begins with is a good one.
use Rattle.std.specs.Prelude.{Bool, true, ◌≡◌, replicate, List, refl, ℕ, ◌+◌, ◌≤◌, ◌<◌, length, get_or}
use Rattle.std.proofs.Common.{inl, inr, ◌∙◌, arith, sym, ap}
use Rattle.std.proofs.Math.Decide.{dec_le}
use Rattle.std.proofs.Math.ListN.{get_or-replicate, get_or-eq_default}
use Rattle.rows.specs.LikeLaws.{by_test}
use Rattle.octets.specs.Lists.{part, over}
use Rattle.octets.specs.PartLaws.{length-part_in}
use Rattle.octets.specs.WriteLaws.{length_over}
use Rattle.image.specs.Image.{spot, file}
use Rattle.image.specs.SpotLaws.{spot-inside}
use Rattle.octets.specs.declared.span.Span.{Span}
use Rattle.setup.specs.declared.Setup.{Setup}
use Rattle.octets.specs.Spans.{no_span, bytes_of}
use Rattle.setup.specs.Setup.{is_active as activeOf, no_segment as undeclared}
use Rattle.setup.specs.Reading.{permission_table}
use Rattle.state.specs.declared.Kept.{Kept}
use Rattle.state.specs.declared.Plan.{Plan}
use Rattle.state.specs.declared.Partition.{Partition}
use Rattle.state.specs.Empty.{no_partition, nobody}
use Rattle.state.specs.Parts.{is_active, part_at, seat_at, segment_at}
use Rattle.accounts.specs.Users.{placed}
use Rattle.begin.specs.Each.{joined}
use Rattle.begin.specs.Files.{password_path, span_of, dseg_files, password_files}
use Rattle.begin.specs.FilesLaws.{found-bytes}
use Rattle.begin.specs.Planned.{path_of, dseg_of, table_start, planned, first_state}
use Rattle.begin.specs.Filled.{file_bytes, tables_image, arena_image, cleared}
use Rattle.begin.specs.Filled.{table_of as bytesFor}
use Rattle.begin.specs.FilledLaws.{length-cleared}
use Rattle.terminal.specs.declared.Terminal.{Terminal}
use Rattle.terminal.specs.Terminal.{record_of, partition_of, table_of, file_of}
use Rattle.steps.specs.World.{World}
use Rattle.good.specs.Good.{Seated, Mapped, SpansApart, Good}
use Rattle.started.specs.Accepted.{Accepted, kept_of}
use Rattle.started.specs.SetUp.{SetUp}
use Rattle.started.specs.Rows.{total-same, total-below, length-joined, below, part-joined, part-over}
use Rattle.started.specs.Titles.{spot-behind, title-before}
use Rattle.started.specs.Plan.{plan, active_eight, seat_active, seat_passive, plan-active, password_at, password_none, segment_at_lem, untitled-at, dseg-at, file-found}
use Rattle.started.specs.Tested.{tables-room, password_fits, password_spot, tested}

-- where a dseg's path is kept: it stands in the store right before the file
pub record Titled (plan : Plan) (row : ℕ) (path store : List ℕ) : Type 0 where
  -- as long as the path
  pub long : (segment_at plan row).path.length ≡ length path
  -- it ends where the file begins
  pub ends : (segment_at plan row).path.place + (segment_at plan row).path.length ≡ (segment_at plan row).file.place
  -- its bytes are the path
  pub bytes : part (segment_at plan row).path.place (segment_at plan row).path.length store ≡ path

-- the world that start leaves, with a plan and a set-up
abbrev pub world_from : Plan → Setup → List ℕ → List ℕ → List ℕ → List ℕ → World
world_from plan s store arena tables screens =
    record {
      terminal = record { plan = plan; state = first_state s };
      permissions = permission_table s;
      store = store;
      arena = over (arena_image plan store) arena;
      tables = over (tables_image plan store) tables;
      screens = cleared plan 8 screens;
    }

module _ (soft : Bool) (text store arena tables screens : List ℕ) (count : ℕ) (active : List Bool) (s : Setup)
    (ok : Accepted text store arena tables screens count active s) where
  abbrev k : SetUp text store count active s
  k = ok.set_up

  abbrev files : List Span
  files = dseg_files s text store

  abbrev passwords : List Span
  passwords = password_files s store

  abbrev kept : Kept
  kept = kept_of store arena tables screens

  abbrev the_plan : Plan
  the_plan = plan soft s text store kept

  abbrev terminal : Terminal
  terminal = record { plan = the_plan; state = first_state s }

  abbrev world : World
  world = world_from the_plan s store arena tables screens

  -- ---- the password tables

  pub seat_of_lem : (p : ℕ) → activeOf s p ≡ true → ((seat_at the_plan p).file ≡ get_or passwords p no_span) × ((seat_at the_plan p).table.place ≡ table_start passwords p) × ((seat_at the_plan p).table.length ≡ (get_or passwords p no_span).length)
  seat_of_lem p a = let e = seat_active soft text store kept count active s k p a in (rw e, rw e, rw e)

  -- as many bytes as the file has; none of a passive partition
  pub as_long : (p : ℕ) → p < 8 → length (bytesFor the_plan store p) ≡ (get_or passwords p no_span).length
  unfolding bytesFor file_bytes
  as_long p h =
      by_test (activeOf s p)
      (λ a.
      rw (seat_of_lem p a).0
      (length-part_in (get_or passwords p no_span).place (get_or passwords p no_span).length store
      (spot-inside store (password_path p) _ _ (password_spot soft text store arena tables screens count active s ok p a))))
      (λ a.
      rw (seat_passive soft text store kept count active s k p h a, password_none soft text store kept count active s k p h a)
      (length-part_in 0 0 store (omega arith)))

  pub start-joined : (p : ℕ) → p ≤ 8 → table_start passwords p ≡ length (joined (bytesFor the_plan store) p)
  unfolding table_start
  start-joined p h =
      rw (length-joined (bytesFor the_plan store) p)
      (total-same (λ q. (get_or passwords q no_span).length) (λ q. length (bytesFor the_plan store q)) p (λ q l. sym (as_long q (omega arith))))

  bytes-at : (p : ℕ) → file_of terminal p store ≡ bytesFor the_plan store p
  unfolding file_of bytesFor file_bytes
  bytes-at p = refl

  -- a table is laid where its seat says
  table_at : (p : ℕ) → activeOf s p ≡ true → table_of terminal p world.tables ≡ bytesFor the_plan store p
  unfolding table_of tables_image
  table_at p a =
      let f : ℕ → List ℕ = bytesFor the_plan store in
      let low = active_eight soft text store kept count active s k p a in
      let seat = seat_of_lem p a in
      let fits : length (joined f 8) ≤ length tables = rw (← start-joined 8 (omega arith)) (tables-room soft text store arena tables screens count active s ok) in
      rw (seat.1, seat.2, start-joined p (omega arith), ← as_long p low)
      (part-over (length (joined f p)) (length (f p)) (joined f 8) tables (below f 8 p low) fits ∙ part-joined f 8 p low)

  -- ---- who is logged in

  pub record_at_lem : (p : ℕ) → record_of terminal p ≡ nobody
  unfolding record_of partition_of part_at first_state
  record_at_lem p = ap (λ (x : Partition). x.login) (go (dec_le 8 p))
    where
      go : Dec (8 ≤ p) → get_or (replicate 8 no_partition) p no_partition ≡ no_partition
      go (yes h) = get_or-eq_default (replicate 8 no_partition) no_partition h
      go (no h) = get_or-replicate 8 p no_partition no_partition (omega arith)

  -- ---- partitions and segments

  pub in_setup : (p : ℕ) → is_active the_plan p ≡ true → activeOf s p ≡ true
  in_setup p a = sym (plan-active soft text store kept count active s k p) ∙ a

  file-bytes : (p : ℕ) → activeOf s p ≡ true → file_of terminal p store ≡ file (password_path p) store
  unfolding file_of file_bytes
  file-bytes p a = rw ((seat_of_lem p a).0, password_at soft text store kept count active s k p a) (rw_file p)
    where
      rw_file : (q : ℕ) → part (span_of (spot (password_path q) store)).place (span_of (spot (password_path q) store)).length store ≡ file (password_path q) store
      rw_file q = found-bytes (password_path q) store

  seated : (p : ℕ) → is_active the_plan p ≡ true → Seated world p
  unfolding placed
  seated p b =
      let a = in_setup p b in
      record {
        found = rw (seat_of_lem p a).0 (password_spot soft text store arena tables screens count active s ok p a);
        same = bytes-at p ∙ sym (table_at p a);
        formed = rw (file-bytes p a) (password_fits soft text store arena tables screens count active s ok p a).1;
        user = rw (record_at_lem p);
      }

  dseg-file : (row : ℕ) → row < s.dsegcount → (segment_at the_plan row).file ≡ get_or files row no_span
  unfolding dseg_of
  dseg-file row h =
      let few = k.dsegs_few in
      rw (segment_at_lem soft text store kept count active s k row (omega arith), dseg-at soft text store kept count active s k row h)

  dseg-path : (row : ℕ) → row < s.dsegcount
      → (segment_at the_plan row).path ≡ path_of (get_or files row no_span) (get_or s.dsegs row undeclared).path.length
  unfolding dseg_of
  dseg-path row h =
      let few = k.dsegs_few in
      rw (segment_at_lem soft text store kept count active s k row (omega arith), dseg-at soft text store kept count active s k row h)

  abbrev path_at : ℕ → List ℕ
  path_at row = bytes_of text (get_or s.dsegs row undeclared).path

  titled : (row : ℕ) → row < s.dsegcount → Titled the_plan row (path_at row) store
  unfolding path_of
  titled row h =
      let found = file-found soft text store kept count active s k row h in
      let low = spot-behind (path_at row) store _ _ found in
      let e = (k.declared row h).long in
      record {
        long = rw (dseg-path row h) (sym e);
        ends = rw (dseg-path row h, dseg-file row h) (omega arith);
        bytes = rw (dseg-path row h, ← e) (title-before (path_at row) store _ _ found);
      }

  mapped : (row : ℕ) → row < s.dsegcount → Mapped world row
  mapped row h =
      record {
        path = path_at row;
        free = (k.declared row h).free;
        found = rw (dseg-file row h) (file-found soft text store kept count active s k row h);
        titled = ((titled row h).ends, (titled row h).long);
      }

  pub mapped-titled : (row : ℕ) → row < s.dsegcount → (m : Mapped world row) × Titled the_plan row m.path store
  unfolding mapped
  mapped-titled row h = (mapped row h, titled row h)

  -- ---- tables share no byte

  in_order_lem : (p q : ℕ) → p < q → activeOf s p ≡ true → activeOf s q ≡ true
      → (seat_at the_plan p).table.place + (seat_at the_plan p).table.length ≤ (seat_at the_plan q).table.place
  unfolding table_start
  in_order_lem p q h a b =
      rw ((seat_of_lem p a).1, (seat_of_lem p a).2, (seat_of_lem q b).1) (total-below (λ i. (get_or passwords i no_span).length) q p h)

  apart : (p q : ℕ) → (p ≡ q → ⊥) → is_active the_plan p ≡ true → is_active the_plan q ≡ true → SpansApart (seat_at the_plan p).table (seat_at the_plan q).table
  apart p q differ a b = go (dec_le q p)
    where
      go : Dec (q ≤ p) → SpansApart (seat_at the_plan p).table (seat_at the_plan q).table
      go (yes h) = inr (in_order_lem q p (less h) (in_setup q b) (in_setup p a))
        where
          less : q ≤ p → q < p
          less l = omega (arith, differ)
      go (no h) = inl (in_order_lem p q (omega arith) (in_setup p a) (in_setup q b))

  -- ---- the whole

  pub world-good : Good world
  unfolding planned
  world-good =
      record {
        tested = tested soft text store arena tables screens count active s ok;
        store_long = refl;
        arena_long = length_over (arena_image the_plan store) arena;
        tables_long = length_over (tables_image the_plan store) tables;
        screens_long = length-cleared the_plan 8 screens;
        image = ok.image;
        seated = seated;
        mapped = mapped;
        untitled = untitled-at soft text store kept count active s k;
        tables_apart = apart;
      }
