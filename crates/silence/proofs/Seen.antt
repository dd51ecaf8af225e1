-- What it says of two worlds that they look alike behind the mask: "Everything is the same in both but that file on the store and in memory, that partition's login
-- record". The mask has no say in these sentences, so that nobody has to trust it.
use Rattle.std.specs.Prelude.{Bool, false, ◌≡◌, ℕ, eqb, length}
use Rattle.std.proofs.Common.{sym, ap, ◌∙◌}
use Rattle.octets.specs.Lists.{part}
use Rattle.octets.specs.OnPartLaws.{Apart, part-on_part-apart, part-on_part-same, length-on_part}
use Rattle.state.specs.declared.LoginRecord.{LoginRecord}
use Rattle.state.specs.declared.Partition.{Partition}
use Rattle.state.specs.declared.Plan.{Plan}
use Rattle.state.specs.Parts.{seat_at, with_login, with_part}
use Rattle.passwords.specs.PasswordFile.{mask_digests}
use Rattle.passwords.specs.MaskLaws.{mask-length}
use Rattle.terminal.specs.Terminal.{partition_of, with_state, with_partition, with_record, table_of, file_of}
use Rattle.steps.specs.World.{World}
use Rattle.silence.specs.Mask.{mask, mask_store, mask_tables, mask_terminal}
use Rattle.silence.specs.Veil.{veiled}
use Rattle.silence.proofs.Veil.{masked_part}
use Rattle.silence.proofs.Runs.{same-plan}

module _ (kept : Bool) (q : ℕ) (w v : World) (e : mask kept q w ≡ mask kept q v) where
  pub same-permissions : w.permissions ≡ v.permissions
  unfolding mask
  same-permissions = ap (λ (x : World). x.permissions) e

  pub same-arena : w.arena ≡ v.arena
  unfolding mask
  same-arena = ap (λ (x : World). x.arena) e

  pub same-screens : w.screens ≡ v.screens
  unfolding mask
  same-screens = ap (λ (x : World). x.screens) e

  -- ---- the state

  pub same-focus : w.terminal.state.focus ≡ v.terminal.state.focus
  unfolding mask mask_terminal with_record with_partition with_state with_part
  same-focus = ap (λ (x : World). x.terminal.state.focus) e

  pub same-stopped : w.terminal.state.stopped ≡ v.terminal.state.stopped
  unfolding mask mask_terminal with_record with_partition with_state with_part
  same-stopped = ap (λ (x : World). x.terminal.state.stopped) e

  pub same_off : w.terminal.state.off ≡ v.terminal.state.off
  unfolding mask mask_terminal with_record with_partition with_state with_part
  same_off = ap (λ (x : World). x.terminal.state.off) e

  seen_partition : (p : ℕ) → veiled kept q p (partition_of w.terminal p) ≡ veiled kept q p (partition_of v.terminal p)
  unfolding mask
  seen_partition p =
      sym (masked_part kept q w.terminal p) ∙ ap (λ (x : World). partition_of x.terminal p) e ∙ masked_part kept q v.terminal p

  unveiled : (p : ℕ) (x : Partition) → eqb p q ≡ false → veiled kept q p x ≡ x
  unfolding veiled with_login
  unveiled p x other = rw other

  -- every other partition's keyboard, cursor, fault flags and login record
  pub same_partition : (p : ℕ) → eqb p q ≡ false → partition_of w.terminal p ≡ partition_of v.terminal p
  same_partition p other = sym (unveiled p (partition_of w.terminal p) other) ∙ seen_partition p ∙ unveiled p (partition_of v.terminal p) other

  -- q's, but for its login record
  pub same_but_login : (r : LoginRecord) → with_login r (partition_of w.terminal q) ≡ with_login r (partition_of v.terminal q)
  unfolding with_login veiled
  same_but_login r = ap (with_login r) (seen_partition q)

  -- ---- the store and the tables

  pub same-store-length : length w.store ≡ length v.store
  unfolding mask
  same-store-length =
      sym (length-on_part mask_digests mask-length _ _ w.store) ∙ ap (λ (x : World). length x.store) e ∙ length-on_part mask_digests mask-length _ _ v.store

  pub same-tables-length : length w.tables ≡ length v.tables
  unfolding mask
  same-tables-length =
      sym (length-on_part mask_digests mask-length _ _ w.tables) ∙ ap (λ (x : World). length x.tables) e ∙ length-on_part mask_digests mask-length _ _ v.tables

  seen-store : mask_store q w.terminal.plan w.store ≡ mask_store q w.terminal.plan v.store
  unfolding mask
  seen-store = ap (λ (x : World). x.store) e ∙ ap (λ (plan : Plan). mask_store q plan v.store) (sym (same-plan kept q w v e))

  seen-tables : mask_tables q w.terminal.plan w.tables ≡ mask_tables q w.terminal.plan v.tables
  unfolding mask
  seen-tables = ap (λ (x : World). x.tables) e ∙ ap (λ (plan : Plan). mask_tables q plan v.tables) (sym (same-plan kept q w v e))

  -- every byte of the store that is not q's password file's
  pub same_store : (place n : ℕ) → Apart (seat_at w.terminal.plan q).file.place (seat_at w.terminal.plan q).file.length place n
      → part place n w.store ≡ part place n v.store
  same_store place n apart =
      sym (part-on_part-apart mask_digests mask-length _ _ place n w.store apart)
      ∙ ap (part place n) seen-store
      ∙ part-on_part-apart mask_digests mask-length _ _ place n v.store apart

  -- every byte of the tables that is not q's table's
  pub same_tables : (place n : ℕ) → Apart (seat_at w.terminal.plan q).table.place (seat_at w.terminal.plan q).table.length place n
      → part place n w.tables ≡ part place n v.tables
  same_tables place n apart =
      sym (part-on_part-apart mask_digests mask-length _ _ place n w.tables apart)
      ∙ ap (part place n) seen-tables
      ∙ part-on_part-apart mask_digests mask-length _ _ place n v.tables apart

  -- and of q's own file and table, all but the digests
  pub same_but_digests : mask_digests (file_of w.terminal q w.store) ≡ mask_digests (file_of w.terminal q v.store)
  unfolding file_of
  same_but_digests =
      sym (part-on_part-same mask_digests mask-length _ _ w.store) ∙ ap (part _ _) seen-store ∙ part-on_part-same mask_digests mask-length _ _ v.store

  pub same-table_but_digests : mask_digests (table_of w.terminal q w.tables) ≡ mask_digests (table_of w.terminal q v.tables)
  unfolding table_of
  same-table_but_digests =
      sym (part-on_part-same mask_digests mask-length _ _ w.tables) ∙ ap (part _ _) seen-tables ∙ part-on_part-same mask_digests mask-length _ _ v.tables
