-- Two terminals that start alike, but for the digests in one active partition's password file, look alike behind the mask.
use Rattle.std.specs.Prelude.{Bool, true, false, List, ◌≡◌, length, get_or, ℕ, ◌<◌, min}
use Rattle.std.proofs.Common.{sym, ap, ◌∙◌, lt-ltb, arith}
use Rattle.checks.specs.Settle.{settle}
use Rattle.setup.specs.declared.Setup.{Setup}
use Rattle.setup.specs.Outcomes.{Outcome}
use Rattle.setup.specs.Setup.{is_active as activeOf}
use Rattle.state.specs.declared.Kept.{Kept}
use Rattle.state.specs.declared.Plan.{Plan}
use Rattle.state.specs.Parts.{is_active}
use Rattle.begin.specs.Planned.{plan_of}
use Rattle.begin.specs.Start.{filled}
use Rattle.terminal.specs.declared.Terminal.{Terminal}
use Rattle.terminal.specs.Start.{Start, begun_from, start}
use Rattle.steps.specs.World.{World}
use Rattle.started.specs.Accepted.{Accepted, kept_of, setup_of, all_filled, accepted}
use Rattle.started.specs.Plan.{plan-active}
use Rattle.started.specs.Tested.{some-count, flag_kept}
use Rattle.started.specs.FirstWorld.{world_from}
use Rattle.good.specs.Good.{Good}
use Rattle.started.specs.Start.{world_of, start-good}
use Rattle.silence.specs.Mask.{mask}
use Rattle.demand3.specs.Images.{mask_image}
use Rattle.demand3.specs.ImageLaws.{length-image}
use Rattle.demand3.specs.Verdicts.{read_masked, plan_masked}
use Rattle.demand3.specs.Answers.{number_masked, same_number}
use Rattle.demand3.specs.Masked.{world_masked}

module _ (t : Terminal) (count : ℕ) (active : List Bool) (soft : Bool) (text arena tables screens : List ℕ) (permissions : List (List ℕ)) where
  abbrev from : List ℕ → Start
  from store = start t count active soft text store arena tables screens permissions

  -- the world that a start from this image leaves
  abbrev world_after : List ℕ → World
  world_after store = world_of (from store) store

  abbrev setup_from : List ℕ → Setup
  setup_from store = setup_of count active text store

  abbrev plan_from : List ℕ → Plan
  plan_from store = plan_of soft (setup_from store) text store (kept_of store arena tables screens)

  abbrev Ok : List ℕ → Type 0
  Ok store = Accepted text store arena tables screens count active (setup_from store)

  is_ok : (store : List ℕ) → (from store).started.number ≡ 0 → Ok store
  unfolding start begun_from
  is_ok store z = accepted count active soft text store arena tables screens permissions z

  world-at : (store : List ℕ) → (from store).started.number ≡ 0 → world_after store ≡ world_from (plan_from store) (setup_from store) store arena tables screens
  unfolding start begun_from world_of filled settle
  world-at store z = rw (all_filled count active soft text store arena tables screens permissions z)

  -- a partition that was given as active is active
  given-active : (store : List ℕ) (q : ℕ) → Ok store → q < count → get_or active q false ≡ true → activeOf (setup_from store) q ≡ true
  unfolding activeOf
  given-active store q ok low flag =
      let c = some-count soft text store arena tables screens count active (setup_from store) ok in
      let e = ok.set_up.partitions in
      let few : q < min count 8 = omega arith in
      rw (lt-ltb q (setup_from store).partitions (omega arith), ok.set_up.flags) (flag_kept count active q few flag)

  in_plan : (store : List ℕ) (q : ℕ) → Ok store → q < count → get_or active q false ≡ true → is_active (plan_from store) q ≡ true
  unfolding plan_of
  in_plan store q ok low flag =
      plan-active soft text store (kept_of store arena tables screens) count active (setup_from store) ok.set_up q ∙ given-active store q ok low flag

  pub started-active : (store : List ℕ) (q : ℕ) → (from store).started.number ≡ 0 → q < count → get_or active q false ≡ true
      → is_active (world_after store).terminal.plan q ≡ true
  started-active store q z low flag =
      ap (λ (w : World). is_active w.terminal.plan q) (world-at store z) ∙ in_plan store q (is_ok store z) low flag

  -- ---- behind the mask

  -- a start that is alike to an accepted one leaves a good world
  pub alike-good : (q : ℕ) (store other : List ℕ) → mask_image q store ≡ mask_image q other → (from store).started.number ≡ 0 → Good (world_after other)
  alike-good q store other like accepted =
      start-good t count active soft text other arena tables screens permissions
      (sym (same_number t count active soft text arena tables screens permissions q store other like) ∙ accepted)

  module _ (q : ℕ) (low : q < count) (flag : get_or active q false ≡ true) where
    setup_masked : (store : List ℕ) → setup_from (mask_image q store) ≡ setup_from store
    setup_masked store = ap (λ (o : Outcome). o.setup) (read_masked q store text count active)

    abbrev kept_with : ℕ → Kept
    kept_with bytes = record { store = bytes; arena = length arena; tables = length tables; screens = length screens }

    fixed_masked : (store : List ℕ) → plan_from (mask_image q store) ≡ plan_from store
    fixed_masked store =
        ap (λ (s : Setup). plan_of soft s text (mask_image q store) (kept_of (mask_image q store) arena tables screens)) (setup_masked store)
        ∙ ap (λ (bytes : ℕ). plan_of soft (setup_from store) text (mask_image q store) (kept_with bytes)) (length-image q store)
        ∙ plan_masked q store soft (setup_from store) text (kept_of store arena tables screens)

    abbrev filled_with : List ℕ → Plan → Setup → World
    filled_with store plan s = world_from plan s (mask_image q store) arena tables screens

    ok_masked : (login : Bool) (store : List ℕ) → Ok store
        → mask login q (world_from (plan_from store) (setup_from store) store arena tables screens) ≡ world_from (plan_from store) (setup_from store) (mask_image q store) arena tables screens
    unfolding plan_of
    ok_masked login store ok =
        world_masked soft text store arena tables screens count active (setup_from store) ok q (in_plan store q ok low flag) login

    -- the world left by an accepted start, behind the mask, is the world that a start from the masked image leaves
    pub start_masked : (login : Bool) (store : List ℕ) → (from store).started.number ≡ 0 → mask login q (world_after store) ≡ world_after (mask_image q store)
    start_masked login store z =
        ap (mask login q) (world-at store z)
        ∙ ok_masked login store (is_ok store z)
        ∙ ap (λ (plan : Plan). filled_with store plan (setup_from store)) (sym (fixed_masked store))
        ∙ ap (filled_with store (plan_from (mask_image q store))) (sym (setup_masked store))
        ∙ sym (world-at (mask_image q store) (number_masked t count active soft text arena tables screens permissions q store ∙ z))

    pub starts-alike : (login : Bool) (store other : List ℕ) → mask_image q store ≡ mask_image q other → (from store).started.number ≡ 0
        → mask login q (world_after store) ≡ mask login q (world_after other)
    starts-alike login store other like z =
        start_masked login store z
        ∙ ap world_after like
        ∙ sym (start_masked login other (sym (same_number t count active soft text arena tables screens permissions q store other like) ∙ z))
