-- `terminal::Terminal::set_password` meets its contract: the file's part of the store and the table's part of the tables are lent cut to their areas, and what
-- comes back in their places is what the change made of them. Assumes nothing.
use Rattle.std.proofs.Common.{List, ◌≡◌, sym, ap, ◌∙◌, ℕ, ◌+◌, ◌-◌, min, length}
use borrow.Rule.Slice.PartMut.{mid_of, put_mid}
use Rattle.octets.specs.Lists.{part, over, on_part}
use Rattle.octets.specs.LentLaws.{lent-part, lent_back}
use Rattle.octets.specs.WriteLaws.{over-same}
use Rattle.octets.specs.declared.span.Span.{Span}
use Rattle.state.specs.declared.LoginRecord.{LoginRecord}
use Rattle.state.specs.Parts.{seat_at}
use Rattle.accounts.specs.SetPassword.{Changed, changed}
use Rattle.accounts.specs.SetPassword as accounts
use Rattle.accounts.specs.AccountLaws.{file-length, table-length}
use Rattle.terminal.specs.declared.Terminal.{Terminal}
use Rattle.terminal.specs.Terminal.{answer, file_of, table_of, differs}
use Rattle.terminal.specs.AccountCalls.{written, replaced, set_password}
use Rattle.terminal.proofs.Terminal.set_password.Goals as goal

-- what is as long as the part takes its place
placed-back : (s : Span) (a e : ℕ) (l now : List ℕ) → a ≡ min s.place (length l) → e ≡ min (a + s.length) (length l)
    → length now ≡ length (part s.place s.length l) → put_mid a (e - a) l now ≡ on_part s.place s.length (over now) l
placed-back s a e l now start end long =
    let same : now ≡ over now (mid_of a (e - a) l) =
    rw (lent-part s.place s.length a e l start end) (sym (over-same now (part s.place s.length l) long)) in
    lent_back s.place s.length a e l start end (over now) now same

-- the two parts, back in their areas
put_back : (t : Terminal) (p n : ℕ) (r : LoginRecord) (pw : List ℕ) (taken number a e b d : ℕ) (store tables file table : List ℕ)
    → a ≡ min (seat_at t.plan p).file.place (length store) → e ≡ min (a + (seat_at t.plan p).file.length) (length store)
    → b ≡ min (seat_at t.plan p).table.place (length tables) → d ≡ min (b + (seat_at t.plan p).table.length) (length tables)
    → changed number file table ≡ accounts.set_password n r pw taken (mid_of a (e - a) store) (mid_of b (d - b) tables)
    → written (answer number 0 t) (put_mid a (e - a) store file) (put_mid b (d - b) tables table)
    ≡ replaced t p store tables (accounts.set_password n r pw taken (file_of t p store) (table_of t p tables))
unfolding file_of table_of replaced
put_back t p n r pw taken number a e b d store tables file table from to start end done =
    let f = (seat_at t.plan p).file in
    let m = (seat_at t.plan p).table in
    let stored = part f.place f.length store in
    let held = part m.place m.length tables in
    let made : changed number file table ≡ accounts.set_password n r pw taken stored held =
    done ∙ rw (lent-part f.place f.length a e store from to, lent-part m.place m.length b d tables start end) in
    let long : length file ≡ length stored = ap (λ (c : Changed). length c.file) made ∙ file-length n r pw taken stored held in
    let wide : length table ≡ length held = ap (λ (c : Changed). length c.table) made ∙ table-length n r pw taken stored held in
    rw (← made, placed-back f a e store file from to long, placed-back m b d tables table start end wide)

pub returns : goal.returns
unfolding set_password differs
returns c = let args = c.args in
    let seat = c.seat.ensures in
    let own = seat_at args.self.plan args.partition in
    let from : c.min-from.result ≡ min own.file.place (length args.store.now) = rw (← seat) c.min-from.ensures in
    let to : c.sum-to.result ≡ min (c.min-from.result + own.file.length) (length args.store.now) = rw (← seat) c.sum-to.ensures in
    let start : c.min-start.result ≡ min own.table.place (length args.tables.now) = rw (← seat) c.min-start.ensures in
    let end : c.sum-end.result ≡ min (c.min-start.result + own.table.length) (length args.tables.now) = rw (← seat) c.sum-end.ensures in
    rw (c.answer.ensures, ← c.tables_wrong-wrong.ensures, ← c.guard-n.ensures, ← c.login_of-record.ensures)
    (put_back args.self args.partition c.guard-n.result c.login_of-record.result args.password.now args.taken c.set_password-number.result
    c.min-from.result c.sum-to.result c.min-start.result c.sum-end.result args.store.now args.tables.now c.set_password-number.new.file c.set_password-number.new.table
    from to start end c.set_password-number.ensures)
