-- The world of an accepted set-up behind the mask is the world that the masked image gives.
use Rattle.std.specs.Prelude.{Bool, false, ◌≡◌, true, List, refl, ℕ, ◌≤◌, ◌<◌, ltb, length}
use Rattle.std.proofs.Common.{inl, inr, ◌∙◌, arith, sym, ap, le-ltb}
use Rattle.std.proofs.Math.Decide.{dec_le}
use Rattle.octets.specs.Lists.{part, over, on_part}
use Rattle.octets.specs.OnPartLaws.{Apart, part-on_part-same, part-on_part-apart}
use Rattle.rows.specs.LikeLaws.{by_test}
use Rattle.image.specs.SpotLaws.{spots-apart, on_file-at}
use Rattle.passwords.specs.PasswordFile.{mask_digests}
use Rattle.passwords.specs.MaskLaws.{mask-length}
use Rattle.octets.specs.declared.span.Span.{Span}
use Rattle.setup.specs.declared.Setup.{Setup}
use Rattle.octets.specs.Spans.{no_span}
use Rattle.state.specs.declared.Kept.{Kept}
use Rattle.state.specs.declared.LoginRecord.{LoginRecord}
use Rattle.state.specs.declared.Plan.{Plan}
use Rattle.state.specs.Empty.{nobody}
use Rattle.state.specs.Parts.{is_active, seat_at, segment_at}
use Rattle.begin.specs.Each.{joined}
use Rattle.begin.specs.Files.{password_path}
use Rattle.begin.specs.Planned.{segment_of, planned}
use Rattle.begin.specs.Filled.{file_bytes, contents_of, arena_image, table_of, tables_image}
use Rattle.terminal.specs.Terminal.{with_record}
use Rattle.promises.specs.Refusals.{record_back}
use Rattle.steps.specs.World.{World}
use Rattle.good.specs.Good.{SpansApart, Good}
use Rattle.started.specs.SetUp.{SetUp}
use Rattle.started.specs.Accepted.{Accepted, kept_of}
use Rattle.started.specs.Rows.{below}
use Rattle.started.specs.Plan.{plan, active_eight, seat_passive, plan-active, segment_at_lem}
use Rattle.started.specs.Tested.{tables-room}
use Rattle.started.specs.FirstWorld.{world_from, seat_of_lem, as_long, start-joined, record_at_lem, in_setup, world-good}
use Rattle.silence.specs.Mask.{seen, mask, mask_terminal, mask_tables}
use Rattle.silence.proofs.Memory.{mapped-apart}
use Rattle.demand3.specs.Images.{mask_image}
use Rattle.demand3.specs.ImageLaws.{other_path}
use Rattle.demand3.specs.Joined.{joined_same, joined-changed, over-changed}

swapped : (a n b m : ℕ) → Apart a n b m → Apart b m a n
swapped a n b m (inl h) = inr h
swapped a n b m (inr h) = inl h

blank : (login : Bool) → seen login nobody ≡ nobody
unfolding seen
blank true = refl
blank false = refl

module _ (soft : Bool) (text store arena tables screens : List ℕ) (count : ℕ) (active : List Bool) (s : Setup)
    (ok : Accepted text store arena tables screens count active s) (q : ℕ) where
  abbrev kept : Kept
  kept = kept_of store arena tables screens

  abbrev the_plan : Plan
  the_plan = plan soft s text store kept

  abbrev k : SetUp text store count active s
  k = ok.set_up

  abbrev world : World
  world = world_from the_plan s store arena tables screens

  good-world : Good world
  good-world = world-good soft text store arena tables screens count active s ok

  module _ (a : is_active the_plan q ≡ true) where
    -- ---- the image

    pub image_masked : mask_image q store ≡ on_part (seat_at the_plan q).file.place (seat_at the_plan q).file.length mask_digests store
    unfolding mask_image
    image_masked = on_file-at store mask_digests (password_path q) _ _ (good-world.seated q a).found

    own-bytes : table_of the_plan (mask_image q store) q ≡ mask_digests (table_of the_plan store q)
    unfolding table_of file_bytes
    own-bytes = rw image_masked (part-on_part-same mask_digests mask-length _ _ store)

    other-bytes : (x : Span) → SpansApart (seat_at the_plan q).file x → file_bytes (mask_image q store) x ≡ file_bytes store x
    unfolding file_bytes
    other-bytes x apart = rw image_masked (part-on_part-apart mask_digests mask-length _ _ _ _ store apart)

    no_bytes : file_bytes (mask_image q store) no_span ≡ file_bytes store no_span
    unfolding file_bytes part
    no_bytes = refl

    -- ---- the tables

    other-table : (p : ℕ) → p < 8 → (q ≡ p → ⊥) → table_of the_plan (mask_image q store) p ≡ table_of the_plan store p
    unfolding table_of
    other-table p low differ = by_test (is_active the_plan p) seated passive
      where
        seated : is_active the_plan p ≡ true → file_bytes (mask_image q store) (seat_at the_plan p).file ≡ file_bytes store (seat_at the_plan p).file
        seated b =
            other-bytes (seat_at the_plan p).file
            (spots-apart store (password_path q) (password_path p) _ _ _ _ (other_path q p differ) (good-world.seated q a).found (good-world.seated p b).found)

        passive : is_active the_plan p ≡ false → file_bytes (mask_image q store) (seat_at the_plan p).file ≡ file_bytes store (seat_at the_plan p).file
        passive b =
            let none = sym (plan-active soft text store kept count active s k p) ∙ b in
            rw (seat_passive soft text store kept count active s k p low none) no_bytes

    tables_masked : over (tables_image the_plan (mask_image q store)) tables ≡ mask_tables q the_plan (over (tables_image the_plan store) tables)
    unfolding tables_image
    tables_masked =
        let f : ℕ → List ℕ = table_of the_plan store in
        let b = in_setup soft text store arena tables screens count active s ok q a in
        let low = active_eight soft text store kept count active s k q b in
        let seat = seat_of_lem soft text store arena tables screens count active s ok q b in
        let at = start-joined soft text store arena tables screens count active s ok q (omega arith) in
        let long = as_long soft text store arena tables screens count active s ok q low in
        let fits : length (joined f 8) ≤ length tables = rw (← start-joined soft text store arena tables screens count active s ok 8 (omega arith)) (tables-room soft text store arena tables screens count active s ok) in
        rw (seat.1, seat.2, at, ← long, joined-changed f (table_of the_plan (mask_image q store)) mask_digests q own-bytes 8 low other-table)
        (over-changed mask_digests mask-length (length (joined f q)) (length (f q)) (joined f 8) tables (below f 8 q low) fits)

    -- ---- the arena

    contents_masked : (row : ℕ) → row < 32 → contents_of the_plan (mask_image q store) row ≡ contents_of the_plan store row
    unfolding contents_of planned segment_of
    contents_masked row low = go (dec_le s.dsegcount row)
      where
        go : Dec (s.dsegcount ≤ row) → contents_of the_plan (mask_image q store) row ≡ contents_of the_plan store row
        go (no h) =
            rw (other-bytes (segment_at the_plan row).file (swapped _ _ _ _ (mapped-apart world q row good-world a (omega arith))))
        go (yes h) = by_test (ltb row 16) dseg (λ e. rw e)
          where
            dseg : ltb row 16 ≡ true → contents_of the_plan (mask_image q store) row ≡ contents_of the_plan store row
            dseg e = rw (e, segment_at_lem soft text store kept count active s k row low, e, le-ltb row s.dsegcount h, no_bytes)

    arena_masked : arena_image the_plan (mask_image q store) ≡ arena_image the_plan store
    unfolding arena_image
    arena_masked = joined_same (contents_of the_plan store) (contents_of the_plan (mask_image q store)) 32 contents_masked

    -- ---- the terminal: nobody is logged in

    terminal_masked : (login : Bool) → mask_terminal login q world.terminal ≡ world.terminal
    unfolding mask_terminal
    terminal_masked login =
        let none = record_at_lem soft text store arena tables screens count active s ok q in
        ap (λ (r : LoginRecord). with_record q r world.terminal) (ap (seen login) none ∙ blank login ∙ sym none) ∙ record_back world.terminal q

    -- ---- the whole

    pub world_masked : (login : Bool) → mask login q world ≡ world_from the_plan s (mask_image q store) arena tables screens
    unfolding mask
    world_masked login = rw (terminal_masked login, ← image_masked, ← tables_masked, ← arena_masked)
