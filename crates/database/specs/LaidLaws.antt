-- How what the code lays comes together: numbers one behind the other, the path behind an entry's numbers, one entry behind another, and the whole.
use Rattle.std.specs.Prelude.{List, [], ◌∷◌, ◌++◌, ◌≡◌, refl, ℕ, ◌+◌, ◌*◌, ◌%◌, ◌≤◌, ◌<◌, get_or, replicate, length, zero, suc, take}
use Rattle.std.proofs.Common.{append_assoc, inl, ◌∙◌, zero-add, suc-add, not-suc-le-zero, le_of_suc-le-suc, arith, eq-eqb, ne_eqb, length-append, take_at, drop_at, sym, add-one, length-take}
use Rattle.std.proofs.lemmas.List.{append-nil, length-replicate}
use Rattle.octets.specs.Lists.{over, write_at}
use Rattle.octets.specs.Numbers.{spelled}
use Rattle.octets.specs.NumberLaws.{length-spelled, spelled_mod}
use Rattle.octets.specs.WriteLaws.{length-write_at, write_at-zero, write_at-nil, write_at_def, write_at-append, write_at_comm}
use Rattle.state.specs.declared.Plan.{Plan}
use Rattle.state.specs.declared.Segment.{Segment}
use Rattle.state.specs.Parts.{segment_at}
use Rattle.memory.specs.Rights.{right_of}
use Rattle.database.specs.Database.{filled, entry, path_of, entry_of, listed, entries, entry_count, header, database}
use Rattle.database.specs.DatabaseLaws.{length-header, length-entries, count_most}
use Rattle.database.specs.Row.{spelled_all, entry_in, Laid, Row, Rows}

-- ---- lists

-- `new` over zeros, with zeros left behind it
zeros-behind : (new : List ℕ) (n : ℕ) → over new (replicate (length new + n) 0) ≡ new ++ replicate n 0
unfolding over
zeros-behind [] n = rw zero-add
zeros-behind (x ∷ new) n = rw (suc-add, zeros-behind new n)

-- the numbers of an entry, and the path behind them
made : (m n : ℕ) (numbers path : List ℕ) → length numbers ≡ m
    → write_at m path (write_at 0 numbers (replicate (m + n) 0)) ≡ numbers ++ filled n path
unfolding filled
made m n numbers path e =
    let zeros : over numbers (replicate (m + n) 0) ≡ numbers ++ replicate n 0 = rw e at (zeros-behind numbers n) in
    rw (
      write_at-zero,
      zeros,
      write_at_def m path (numbers ++ replicate n 0),
      take_at numbers (replicate n 0) m e,
      drop_at numbers (replicate n 0) m e,
    )

-- what is laid over a row that is laid over another
over-inside : (a b c : List ℕ) → length a ≤ length b → over a (over b c) ≡ over (over a b) c
unfolding over
over-inside [] b c h = refl
over-inside (x ∷ a) [] c h = absurd (not-suc-le-zero h)
over-inside (x ∷ a) (y ∷ b) [] h = refl
over-inside (x ∷ a) (y ∷ b) (z ∷ c) h = rw (over-inside a b c (le_of_suc-le-suc h))

-- zeros, entries behind the header's place, and the header
joined : (n : ℕ) (head rows buffer : List ℕ) → length head ≡ 24 → 24 + length rows ≤ n
    → write_at 0 head (write_at 24 rows (over (replicate n 0) buffer)) ≡ over (filled n (head ++ rows)) buffer
unfolding filled
joined n head rows buffer e h =
    let apart : 0 + length head ≤ 24 = omega arith in
    let place : 24 ≡ 0 + length head = omega arith in
    let fits : length (head ++ rows) ≤ length {A = ℕ} (replicate n 0) = rw (length-append, length-replicate) (omega arith) in
    write_at_comm 0 head 24 rows (over (replicate n 0) buffer) (inl apart)
    ∙ rw (place, write_at-append 0 head rows (over (replicate n 0) buffer), write_at-zero) (over-inside (head ++ rows) (replicate n 0) buffer fits)

-- one text behind another of k bytes
pub behind : (at k : ℕ) (a b old : List ℕ) → length a ≡ k → write_at (at + k) b (write_at at a old) ≡ write_at at (a ++ b) old
behind at k a b old e = rw e at (write_at-append at a b old)

pub length-all : (values : List ℕ) → length (spelled_all values) ≡ 4 * length values
unfolding spelled_all
length-all [] = refl
length-all (v ∷ values) = rw (length-append, length-spelled, length-all values) (omega arith)

-- one number more
pub one_more : (values : List ℕ) (i : ℕ) → i < length values → spelled_all (take (i + 1) values) ≡ spelled_all (take i values) ++ spelled 4 (get_or values i 0)
unfolding spelled_all
one_more [] i h = absurd (not-suc-le-zero h)
one_more (v ∷ values) zero h = rw append-nil
one_more (v ∷ values) (suc i) h = rw (suc-add, one_more values i (le_of_suc-le-suc h), append_assoc)

pub put_more : (values : List ℕ) (i : ℕ) (old : List ℕ) → i < length values
    → write_at (4 * i) (spelled 4 (get_or values i 0)) (write_at 0 (spelled_all (take i values)) old) ≡ write_at 0 (spelled_all (take (i + 1) values)) old
put_more values i old h =
    let few : length (take i values) ≡ i = rw length-take (omega arith) in
    let long : length (spelled_all (take i values)) ≡ 4 * i = rw (length-all (take i values), few) in
    rw (one_more values i h, ← zero-add (4 * i))
    (behind 0 (4 * i) (spelled_all (take i values)) (spelled 4 (get_or values i 0)) old long)

pub header_made : (p count : ℕ) → spelled_all (1 ∷ 1 ∷ p ∷ 2 ∷ p ∷ count ∷ []) ≡ header p count
unfolding header spelled_all
header_made p count = rw append-nil

pub entry-made : (kind selector size right : ℕ) (path : List ℕ)
    → write_at 16 path (write_at 0 (spelled_all (kind ∷ selector ∷ size ∷ right ∷ [])) (replicate 80 0)) ≡ entry kind selector size right path
unfolding entry spelled_all
entry-made kind selector size right path =
    made 16 64 (spelled_all (kind ∷ selector ∷ size ∷ right ∷ [])) path (length-all (kind ∷ selector ∷ size ∷ right ∷ [])) ∙ simp (append_assoc, append-nil)

-- four bytes hold of a size what it is modulo 2^32
pub size-cut : (kind selector size right : ℕ) (path : List ℕ) → entry kind selector (size % 4294967296) right path ≡ entry kind selector size right path
unfolding entry
size-cut kind selector size right path = rw (spelled_mod 4 size)

-- ---- one row, and the rows before it

module _ {segment : Segment} {store : List ℕ} where
  pub row-none : (row count right : ℕ) (old : List ℕ) → right ≡ 0 → Laid segment right store row count count old old
  row-none row count right old e =
      let none = eq-eqb right 0 e in
      record { counted = rw none (omega arith); laid = rw none (sym (write_at-nil (24 + 80 * count) old)) }

  pub row_one : (row count right : ℕ) (old new : List ℕ) → (right ≡ 0 → ⊥) → new ≡ write_at (24 + 80 * count) (entry_in segment store right row) old
      → Laid segment right store row count (count + 1) old new
  row_one row count right old new h l = record { counted = rw (ne_eqb right 0 h); laid = rw (ne_eqb right 0 h) l }

module _ {plan : Plan} {permissions : List (List ℕ)} {store : List ℕ} {p : ℕ} where
  -- what was laid by parts of the plan and of the table is the row's
  pub row_laid : {segment : Segment} {right row count next : ℕ} {old new : List ℕ} → segment ≡ segment_at plan row → right ≡ right_of plan permissions row p
      → Laid segment right store row count next old new → Row plan permissions store p row count next old new
  unfolding listed entry_of path_of entry_in
  row_laid e f row = record { counted = rw (← f) row.counted; laid = rw (← f, ← e) row.laid }

  pub rows-most : {n count : ℕ} {old new : List ℕ} → Rows plan permissions store p n count old new → count ≤ n
  rows-most {n} before = rw before.counted (count_most plan permissions p n)

  pub rows-length : {n count : ℕ} {old new : List ℕ} → Rows plan permissions store p n count old new → length new ≡ length old
  rows-length {n} {count} {old} before = rw before.laid (length-write_at 24 (entries plan permissions store p n) old)

  pub rows_start : (old : List ℕ) → Rows plan permissions store p 0 0 old old
  unfolding entries entry_count
  rows_start old = record { counted = refl; laid = sym (write_at-nil 24 old) }

  pub rows_step : {n count next : ℕ} {old mid new : List ℕ} → Rows plan permissions store p n count old mid
      → Row plan permissions store p n count next mid new → Rows plan permissions store p (n + 1) next old new
  unfolding entries entry_count
  rows_step {n} {count} {next} {old} {mid} {new} before row =
      let place : 24 + 80 * count ≡ 24 + length (entries plan permissions store p n) = rw (before.counted, length-entries plan permissions p store n) in
      record {
        counted = rw (row.counted, add-one, before.counted);
        laid = rw (row.laid, before.laid, place, add-one) (write_at-append 24 (entries plan permissions store p n) (listed plan permissions store p n) old);
      }

-- the whole database
pub whole : (plan : Plan) (permissions : List (List ℕ)) (store : List ℕ) (p count : ℕ) (old cleared laid after : List ℕ)
    → cleared ≡ over (replicate 2584 0) old → Rows plan permissions store p 32 count cleared laid → after ≡ write_at 0 (header p count) laid
    → after ≡ over (database plan permissions store p) old
unfolding database
whole plan permissions store p count old cleared laid after e rows f =
    let most : entry_count plan permissions p 32 ≤ 32 = count_most plan permissions p 32 in
    let fits : 24 + length (entries plan permissions store p 32) ≤ 2584 = rw (length-entries plan permissions p store 32) (omega arith) in
    rw (f, rows.laid, e, rows.counted)
    (joined 2584 (header p (entry_count plan permissions p 32)) (entries plan permissions store p 32) old (length-header p (entry_count plan permissions p 32)) fits)
