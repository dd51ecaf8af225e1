-- q's own login, who and set-password leave nothing to be seen behind the mask.
use Rattle.std.specs.Prelude.{Bool, true, false, ◌||◌, ◌≡◌, refl, ℕ, length, List}
use Rattle.std.proofs.Common.{sym, ◌∙◌, eqb-true, ap}
use Rattle.std.proofs.lemmas.Bool.{false≢true}
use Rattle.octets.specs.Lists.{part, over, on_part}
use Rattle.octets.specs.OnPartLaws.{on_part-same, on_part-twice}
use Rattle.octets.specs.WriteLaws.{length_over, over-same}
use Rattle.state.specs.declared.LoginRecord.{LoginRecord}
use Rattle.state.specs.Parts.{seat_at, is_active}
use Rattle.passwords.specs.PasswordFile.{mask_digests}
use Rattle.accounts.specs.SetPassword.{set_password}
use Rattle.accounts.specs.AccountLaws.{file-length, table-length, kept_together, mask-kept}
use Rattle.terminal.specs.Terminal.{record_of, file_of, table_of, guard_of, differs, tables_wrong, with_record, unmoved}
use Rattle.terminal.specs.AccountCalls as accounts
use Rattle.steps.specs.World.{World, Move, fills, answers, step, with_terminal}
use Rattle.steps.specs.World.Move.{ReadNext, ReadRandom, WriteNext, WriteRandom, Load, Store, Flush, Login, Who, Logout, SetPassword, Shutdown, Powerdown, Configuration, Key, Attention, Fault}
use Rattle.good.specs.Good.{Good}
use Rattle.silence.specs.Mask.{mask, own}
use Rattle.silence.proofs.Veil.{record_plan, record_blanked}

-- a part that is laid over with what looks like it behind the mask
hidden : (place n : ℕ) (new l : List ℕ) → length new ≡ length (part place n l) → mask_digests new ≡ mask_digests (part place n l)
    → on_part place n mask_digests (on_part place n (over new) l) ≡ on_part place n mask_digests l
hidden place n new l long same =
    on_part-twice (over new) (length_over new) place n mask_digests l
    ∙ on_part-same place n (λ x. mask_digests (over new x)) mask_digests l (ap mask_digests (over-same new (part place n l) long) ∙ same)

module _ (kept : Bool) (q : ℕ) (w : World) (same : file_of w.terminal q w.store ≡ table_of w.terminal q w.tables) (password : List ℕ) (taken : ℕ) where
  -- a new password is hidden with the digests, whether the login record is kept or not
  pub set_invisible : mask kept q (step w (SetPassword q password taken)).world ≡ mask kept q w
  unfolding step answers accounts.set_password accounts.replaced mask file_of table_of
  set_invisible =
      let f = (seat_at w.terminal.plan q).file in
      let m = (seat_at w.terminal.plan q).table in
      let file = part f.place f.length w.store in
      let table = part m.place m.length w.tables in
      let n = guard_of w.terminal (differs w.store w.terminal.plan.kept.store || tables_wrong w.terminal q w.tables) q in
      let r = record_of w.terminal q in
      let c = set_password n r password taken file table in
      let shown : mask_digests c.file ≡ mask_digests file =
      ap (λ (l : List ℕ). mask_digests (set_password n r password taken file l).file) (sym same) ∙ mask-kept n r password taken file in
      let shown-table : mask_digests c.table ≡ mask_digests table =
      ap mask_digests (sym (kept_together n r password taken file table same)) ∙ shown ∙ ap mask_digests same in
      rw (
        hidden f.place f.length c.file w.store (file-length n r password taken file table) shown,
        hidden m.place m.length c.table w.tables (table-length n r password taken file table) shown-table,
      )

blanked-world : (q : ℕ) (r : LoginRecord) (w : World) → mask false q (with_terminal (with_record q r w.terminal) w) ≡ mask false q w
unfolding mask
blanked-world q r w = rw (record_blanked q r w.terminal, record_plan q r w.terminal)

login_invisible : (q : ℕ) (w : World) (name password : List ℕ) → mask false q (step w (Login q name password)).world ≡ mask false q w
unfolding step answers accounts.login accounts.tried
login_invisible q w name password = blanked-world q _ w

-- nothing changes at all
pub who_invisible : (kept : Bool) (q p : ℕ) (w : World) (buffer : List ℕ) → mask kept q (step w (Who p buffer)).world ≡ mask kept q w
unfolding step fills accounts.who unmoved
who_invisible kept q p w buffer = refl

pub own_invisible : (q : ℕ) (w : World) (m : Move) → Good w → is_active w.terminal.plan q ≡ true → own q m ≡ true → mask false q (step w m).world ≡ mask false q w
unfolding own
own_invisible q w (ReadNext p major minor request buffer) g a e = absurd (false≢true e)
own_invisible q w (ReadRandom p major minor offset request buffer) g a e = absurd (false≢true e)
own_invisible q w (WriteNext p major minor request bytes) g a e = absurd (false≢true e)
own_invisible q w (WriteRandom p major minor offset request bytes) g a e = absurd (false≢true e)
own_invisible q w (Load p selector offset buffer) g a e = absurd (false≢true e)
own_invisible q w (Store p selector offset bytes) g a e = absurd (false≢true e)
own_invisible q w (Flush p selector taken) g a e = absurd (false≢true e)
own_invisible q w (Login p name password) g a e = rw (eqb-true p q e) (login_invisible q w name password)
own_invisible q w (Who p buffer) g a e = who_invisible false q p w buffer
own_invisible q w (Logout p) g a e = absurd (false≢true e)
own_invisible q w (SetPassword p password taken) g a e = rw (eqb-true p q e) (set_invisible false q w (g.seated q a).same password taken)
own_invisible q w (Shutdown p message) g a e = absurd (false≢true e)
own_invisible q w (Powerdown p) g a e = absurd (false≢true e)
own_invisible q w (Configuration p buffer) g a e = absurd (false≢true e)
own_invisible q w (Key byte) g a e = absurd (false≢true e)
own_invisible q w Attention g a e = absurd (false≢true e)
own_invisible q w (Fault p device set) g a e = absurd (false≢true e)
