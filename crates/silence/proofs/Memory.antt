-- Load, store and flush behind the mask: none of them reads the store, and a flush writes to another file than q's password file.
use Rattle.std.specs.Prelude.{Bool, true, false, not, ◌||◌, List, ◌≡◌, refl, ℕ, ◌<◌, eqb, ltb, take}
use Rattle.std.proofs.Common.{sym, ap, ◌∙◌, arith, eqb-true, ltb-true}
use Rattle.std.proofs.lemmas.Bool.{false≢true, not-false}
use Rattle.octets.specs.Lists.{over, on_part}
use Rattle.octets.specs.OnPartLaws.{Apart, length-on_part, on_part_comm}
use Rattle.octets.specs.WriteLaws.{length_over}
use Rattle.octets.specs.Same.{same_bytes}
use Rattle.checks.specs.Checks.{after}
use Rattle.checks.specs.Laws.{not-due, second-not-due}
use Rattle.checks.specs.Settle.{settle}
use Rattle.checks.specs.Told.{told}
use Rattle.rows.specs.LikeLaws.{by_test}
use Rattle.setup.specs.Rules.{reserved}
use Rattle.image.specs.SpotLaws.{spots-apart}
use Rattle.begin.specs.Files.{password_path}
use Rattle.state.specs.declared.Plan.{Plan}
use Rattle.state.specs.Parts.{segment_at, seat_at, is_active}
use Rattle.passwords.specs.PasswordFile.{mask_digests}
use Rattle.passwords.specs.MaskLaws.{mask-length}
use Rattle.memory.specs.declared.Reach.{Reach}
use Rattle.memory.specs.Rights.{row_of, declared, right_of, reach}
use Rattle.memory.specs.Memory.{bytes_of, flush_checks, flush}
use Rattle.terminal.specs.declared.Terminal.{Terminal}
use Rattle.terminal.specs.Terminal.{outcome, unmoved, with_state, with_partition, with_record, guard_of, differs}
use Rattle.terminal.specs.MemoryCalls as memory
use Rattle.steps.specs.World.{World}
use Rattle.good.specs.Good.{Good, SpansApart}
use Rattle.silence.specs.Mask.{mask_terminal}
use Rattle.silence.proofs.Veil.{masked_guard}
use Rattle.silence.specs.Worlds.{mask_answer, mask_outcome}

-- the mask keeps the length of an area
pub masked_differs : (place n : ℕ) (l : List ℕ) (long : ℕ) → differs (on_part place n mask_digests l) long ≡ differs l long
unfolding differs
masked_differs place n l long = rw (length-on_part mask_digests mask-length place n l)

-- ---- load and store

module _ (kept : Bool) (q : ℕ) (t : Terminal) (permissions : List (List ℕ)) (p selector offset : ℕ) where
  pub load_masked : (arena buffer : List ℕ)
      → memory.load (mask_terminal kept q t) permissions p selector offset arena buffer ≡ mask_outcome kept q (memory.load t permissions p selector offset arena buffer)
  unfolding memory.load unmoved mask_outcome mask_answer mask_terminal with_record with_partition with_state
  load_masked arena buffer = rw (masked_guard kept q t (differs arena t.plan.kept.arena) p)

  pub store_masked : (bytes arena : List ℕ)
      → memory.store (mask_terminal kept q t) permissions p selector offset bytes arena ≡ mask_outcome kept q (memory.store t permissions p selector offset bytes arena)
  unfolding memory.store unmoved mask_outcome mask_answer mask_terminal with_record with_partition with_state
  store_masked bytes arena = rw (masked_guard kept q t (differs arena t.plan.kept.arena) p)

-- ---- a segment that a partition has a right to is declared

declared-right : (plan : Plan) (permissions : List (List ℕ)) (row p : ℕ) → eqb (right_of plan permissions row p) 0 ≡ false → declared plan row ≡ true
unfolding right_of
declared-right plan permissions row p e = by_test (declared plan row) (λ d. d) (λ d. let z : true ≡ false = rw d at e in absurd (false≢true (sym z)))

pub declared-dseg : (plan : Plan) (permissions : List (List ℕ)) (row p : ℕ) → eqb (right_of plan permissions row p) 0 ≡ false → ltb row 16 ≡ true → row < plan.dsegs
unfolding declared
declared-dseg plan permissions row p e low =
    let d = declared-right plan permissions row p e in
    ltb-true row plan.dsegs (rw low at d)

-- ---- a mapped file is no password file

reserved-file : (q : ℕ) → reserved (password_path q) ≡ true
unfolding reserved password_path same_bytes
reserved-file q = refl

pub not-reserved : (path : List ℕ) (q : ℕ) → reserved path ≡ false → path ≡ password_path q → ⊥
not-reserved path q free e = false≢true (sym free ∙ ap reserved e ∙ reserved-file q)

pub mapped-apart : (w : World) (q row : ℕ) → Good w → is_active w.terminal.plan q ≡ true → row < w.terminal.plan.dsegs
    → SpansApart (segment_at w.terminal.plan row).file (seat_at w.terminal.plan q).file
mapped-apart w q row g a low =
    let m = g.mapped row low in
    let s = g.seated q a in
    spots-apart w.store m.path (password_path q) _ _ _ _ (not-reserved m.path q m.free) m.found s.found

-- ---- flush

flush-hidden : (n : ℕ) (r : Reach) (taken : ℕ) (arena store : List ℕ) (place long : ℕ)
    → (after n (flush_checks r) ≡ 0 → Apart r.segment.file.place r.segment.file.length place long)
    → flush n r taken arena (on_part place long mask_digests store) ≡ told (flush n r taken arena store).number (on_part place long mask_digests (flush n r taken arena store).lent)
unfolding flush settle
flush-hidden n r taken arena store place long apart = go (eqb (after n (flush_checks r)) 0) refl
  where
    go : (b : Bool) → eqb (after n (flush_checks r)) 0 ≡ b
        → flush n r taken arena (on_part place long mask_digests store) ≡ told (flush n r taken arena store).number (on_part place long mask_digests (flush n r taken arena store).lent)
    go true e =
        let new = take taken (bytes_of r.segment arena) in
        rw (e, on_part_comm (over new) mask_digests (length_over new) mask-length r.segment.file.place r.segment.file.length place long store (apart (eqb-true _ 0 e)))
    go false e = rw e

module _ (kept : Bool) (q : ℕ) (w : World) (g : Good w) (a : is_active w.terminal.plan q ≡ true) (p selector taken : ℕ) where
  flush-apart : (n : ℕ) → after n (flush_checks (reach w.terminal.plan w.permissions p selector)) ≡ 0
      → SpansApart (reach w.terminal.plan w.permissions p selector).segment.file (seat_at w.terminal.plan q).file
  unfolding flush_checks reach
  flush-apart n e =
      let plan = w.terminal.plan in
      let right = not-due n 211 (eqb (right_of plan w.permissions (row_of selector) p) 0) _ e (λ z. absurd (omega arith)) in
      let dseg = not-false (ltb (row_of selector) 16) (second-not-due n 201 _ (not (ltb (row_of selector) 16)) _ e (λ z. absurd (omega arith))) in
      mapped-apart w q (row_of selector) g a (declared-dseg plan w.permissions (row_of selector) p right dseg)

  -- the same answer, and the store that it would have left, behind the mask
  pub flush_masked :
      memory.flush (mask_terminal kept q w.terminal) w.permissions p selector taken w.arena
      (on_part (seat_at w.terminal.plan q).file.place (seat_at w.terminal.plan q).file.length mask_digests w.store)
      ≡ outcome (mask_answer kept q (memory.flush w.terminal w.permissions p selector taken w.arena w.store).answer)
      (on_part (seat_at w.terminal.plan q).file.place (seat_at w.terminal.plan q).file.length mask_digests
      (memory.flush w.terminal w.permissions p selector taken w.arena w.store).lent)
  unfolding memory.flush unmoved mask_answer mask_terminal with_record with_partition with_state
  flush_masked =
      let plan = w.terminal.plan in
      let f = (seat_at w.terminal.plan q).file in
      let n = guard_of w.terminal (differs w.store plan.kept.store || differs w.arena plan.kept.arena) p in
      rw (
        masked_differs f.place f.length w.store plan.kept.store,
        masked_guard kept q w.terminal (differs w.store plan.kept.store || differs w.arena plan.kept.arena) p,
        flush-hidden n (reach plan w.permissions p selector) taken w.arena w.store f.place f.length (flush-apart n),
      )
