-- Configuration behind the mask: the paths that it lists from the store are none of q's digests.
use Rattle.std.specs.Prelude.{Bool, List, ◌≡◌, length, true, false, refl, ℕ, zero, suc, ◌+◌, ◌-◌, ◌<◌, eqb, ltb}
use Rattle.std.proofs.Common.{inl, inr, sym, arith, ltb-false}
use Rattle.octets.specs.Lists.{part}
use Rattle.octets.specs.OnPartLaws.{Apart, part-on_part-apart}
use Rattle.rows.specs.LikeLaws.{by_test}
use Rattle.image.specs.SpotLaws.{title-apart}
use Rattle.begin.specs.Files.{password_path}
use Rattle.state.specs.Parts.{segment_at, seat_at, is_active}
use Rattle.passwords.specs.PasswordFile.{mask_digests}
use Rattle.passwords.specs.MaskLaws.{mask-length}
use Rattle.memory.specs.Rights.{right_of}
use Rattle.database.specs.Database.{path_of, entry_of, listed, entries, database, configuration}
use Rattle.terminal.specs.Terminal.{unmoved, with_state, with_partition, with_record, differs}
use Rattle.terminal.specs.MemoryCalls as memory
use Rattle.steps.specs.World.{World}
use Rattle.good.specs.Good.{Good, SpansApart}
use Rattle.silence.specs.Mask.{mask_store, mask_terminal}
use Rattle.silence.proofs.Veil.{masked_guard}
use Rattle.silence.specs.Worlds.{mask_answer, mask_outcome}
use Rattle.silence.proofs.Memory.{masked_differs, declared-dseg, not-reserved}

no_part : (place : ℕ) (l m : List ℕ) → part place 0 l ≡ part place 0 m
unfolding part
no_part place l m = refl

before : (a n place path : ℕ) → place + n ≡ a → path ≡ n → place ≡ a - path
before a n place path e f = omega arith

flip : (x n y m : ℕ) → Apart x n y m → Apart y m x n
flip x n y m (inl h) = inr h
flip x n y m (inr h) = inl h

module _ (kept : Bool) (q : ℕ) (w : World) (g : Good w) (a : is_active w.terminal.plan q ≡ true) (p : ℕ) where
  -- a dseg's path is apart from q's password file
  path-apart : (row : ℕ) → row < w.terminal.plan.dsegs → SpansApart (segment_at w.terminal.plan row).path (seat_at w.terminal.plan q).file
  path-apart row low =
      let m = g.mapped row low in
      let s = g.seated q a in
      let file = (segment_at w.terminal.plan row).file in
      let title = (segment_at w.terminal.plan row).path in
      let long = m.titled.1 in
      let place : title.place ≡ file.place - length m.path = before file.place title.length title.place (length m.path) m.titled.0 (sym long) in
      subst2 title.place title.length (file.place - length m.path) (length m.path) place long
      (title-apart w.store m.path (password_path q) _ _ _ _ (not-reserved m.path q m.free) m.found s.found)
    where
      subst2 : (x n y k : ℕ) → x ≡ y → n ≡ k → Apart y k (seat_at w.terminal.plan q).file.place (seat_at w.terminal.plan q).file.length
          → Apart x n (seat_at w.terminal.plan q).file.place (seat_at w.terminal.plan q).file.length
      subst2 x n y k e f h = rw (e, f) h

  path-kept : (row : ℕ) → eqb (right_of w.terminal.plan w.permissions row p) 0 ≡ false
      → path_of w.terminal.plan (mask_store q w.terminal.plan w.store) row ≡ path_of w.terminal.plan w.store row
  unfolding path_of
  path-kept row right = by_test (ltb row 16) dseg mseg
    where
      dseg : ltb row 16 ≡ true → path_of w.terminal.plan (mask_store q w.terminal.plan w.store) row ≡ path_of w.terminal.plan w.store row
      dseg low =
          let h = path-apart row (declared-dseg w.terminal.plan w.permissions row p right low) in
          part-on_part-apart mask_digests mask-length _ _ _ _ w.store (flip _ _ _ _ h)

      mseg : ltb row 16 ≡ false → path_of w.terminal.plan (mask_store q w.terminal.plan w.store) row ≡ path_of w.terminal.plan w.store row
      mseg high = rw (g.untitled row (ltb-false row 16 high)) (no_part _ (mask_store q w.terminal.plan w.store) w.store)

  listed_kept : (row : ℕ) → listed w.terminal.plan w.permissions (mask_store q w.terminal.plan w.store) p row ≡ listed w.terminal.plan w.permissions w.store p row
  unfolding listed entry_of
  listed_kept row = go (eqb (right_of w.terminal.plan w.permissions row p) 0) refl
    where
      go : (b : Bool) → eqb (right_of w.terminal.plan w.permissions row p) 0 ≡ b
          → listed w.terminal.plan w.permissions (mask_store q w.terminal.plan w.store) p row ≡ listed w.terminal.plan w.permissions w.store p row
      go true e = rw e
      go false e = rw (e, path-kept row e)

  entries-kept : (n : ℕ) → entries w.terminal.plan w.permissions (mask_store q w.terminal.plan w.store) p n ≡ entries w.terminal.plan w.permissions w.store p n
  unfolding entries
  entries-kept zero = refl
  entries-kept (suc n) = rw (entries-kept n, listed_kept n)

  pub configuration_masked : (buffer : List ℕ)
      → memory.configuration (mask_terminal kept q w.terminal) w.permissions p (mask_store q w.terminal.plan w.store) buffer
      ≡ mask_outcome kept q (memory.configuration w.terminal w.permissions p w.store buffer)
  unfolding memory.configuration configuration database unmoved mask_outcome mask_answer mask_terminal with_record with_partition with_state
  configuration_masked buffer =
      rw (
        masked_differs _ _ w.store w.terminal.plan.kept.store,
        masked_guard kept q w.terminal (differs w.store w.terminal.plan.kept.store) p,
        entries-kept 32,
      )
