-- Laws of writing one text behind another.
use Rattle.std.specs.Prelude.{true, false, ◌||◌, List, [], ◌∷◌, ◌++◌, ◌≡◌, refl, ℕ, zero, suc, ◌+◌, ◌-◌, ◌/◌, ◌%◌, ◌≤◌, ◌<◌, min, eqb, ltb, length}
use Rattle.std.proofs.Common.{sym, sub-one, arith, length-append}
use Rattle.std.proofs.Math.Decide.{dec_le}
use Rattle.octets.specs.Lists.{write_at}
use Rattle.octets.specs.WriteLaws.{write_at-append, write_at-nil, write_at_out, length-write_at}
use Rattle.lines.specs.Lines.{digits, fields, line}
use Rattle.lines.specs.Wrote.{Wrote, Put, most}
use Rattle.lines.specs.declared.output.Output.{Output}

-- a place that is not counted any further
capped : (m x : ℕ) (b n : List ℕ) → length n < m → write_at (min x m) b n ≡ write_at x b n
capped m x b n h = go (dec_le x m)
  where
    go : Dec (x ≤ m) → write_at (min x m) b n ≡ write_at x b n
    go (yes k) =
        let e : min x m ≡ x = omega arith in
        rw e
    go (no k) =
        let e : min x m ≡ m = omega arith in
        rw (e, write_at_out m b n (omega arith)) (sym (write_at_out x b n (omega arith)))

-- a write keeps the row's length
pub kept : {at : ℕ} {a o n : List ℕ} {r : ℕ} → Wrote at a o n r → length n ≡ length o
kept {at} {a} {o} f = rw f.written (length-write_at at a o)

-- one text behind another is both
pub behind : {at : ℕ} {a : List ℕ} {o n : List ℕ} {r : ℕ} {b m : List ℕ} {q : ℕ} → Wrote at a o n r → Wrote r b n m q → Wrote at (a ++ b) o m q
behind {at} {a} {o} {n} {r} {b} {m} {q} f g =
    let small : length n < most = rw (kept f) f.room in
    record {
      written = rw (g.written, f.place, capped most (at + length a) b n small, f.written) (write_at-append at a b o);
      place = rw (g.place, f.place, length-append) (omega arith);
      room = f.room;
    }

-- nothing behind a text
pub nothing : {at : ℕ} {a o n : List ℕ} {r : ℕ} → Wrote at a o n r → Wrote r [] n n r
nothing {at} {a} {o} {n} {r} f =
    let same : length n ≡ length o = kept f in
    let small : length o < most = f.room in
    let place : r ≡ min (at + length a) most = f.place in
    record { written = sym (write_at-nil r n); place = omega arith; room = omega arith }

-- the same text by another name
pub called : {at : ℕ} {a b o n : List ℕ} {r : ℕ} → a ≡ b → Wrote at a o n r → Wrote at b o n r
called e w = rw e at w

-- ---- of an output

-- one text behind another is both
pub then_put : {a b : List ℕ} {o n m : Output} → Put a o n → Put b n m → Put (a ++ b) o m
then_put f g = record { wrote = behind f.wrote g.wrote; same_row = rw g.same_row f.same_row }

-- the same text by another name
pub put_called : {a b : List ℕ} {o n : Output} → a ≡ b → Put a o n → Put b o n
put_called e w = rw e at w

-- what was written from place `at` on stands there
pub laid : (at : ℕ) {t : List ℕ} {o n : Output} → Put t o n → o.at ≡ min at most → n.row.now ≡ write_at at t o.row.now
laid at {t} {o} f e = rw (f.wrote.written, e) (capped most at t o.row.now f.wrote.room)

-- nothing
pub put_nothing : (o : Output) → Put [] o o
unfolding most
put_nothing o =
    let counted : o.at ≤ 9223372036854775808 = o.counted in
    let room : length o.row.now < 9223372036854775808 = o.room in
    record { wrote = record { written = sym (write_at-nil o.at o.row.now); place = omega arith; room = room }; same_row = refl }

-- ---- digits

pub digits-none : (n v : ℕ) → n ≡ 0 → [] ≡ digits n v
unfolding digits
digits-none n v e = rw e

pub digits_last : (n v : ℕ) → (n ≡ 0 → ⊥) → ltb v 10 ≡ true → (48 + v % 10) ∷ [] ≡ digits n v
unfolding digits
digits_last zero v h e = absurd (h refl)
digits_last (suc n) v h e = rw e

pub digits_more : (n v : ℕ) → (n ≡ 0 → ⊥) → ltb v 10 ≡ false → digits (n - 1) (v / 10) ++ ((48 + v % 10) ∷ []) ≡ digits n v
unfolding digits
digits_more zero v h e = absurd (h refl)
digits_more (suc n) v h e = rw (e, sub-one)

-- ---- a line

pub line-none : (p : ℕ) (letter : List ℕ) (i granted : ℕ) (what : List ℕ) → eqb granted 1 || eqb granted 2 ≡ false
    → [] ≡ line p letter i granted what
unfolding line
line-none p letter i granted what e = rw e

pub line-some : (p : ℕ) (letter : List ℕ) (i granted : ℕ) (what : List ℕ) → eqb granted 1 || eqb granted 2 ≡ true
    → fields p letter i granted ++ (what ++ (10 ∷ [])) ≡ line p letter i granted what
unfolding line
line-some p letter i granted what e = rw e
