-- What a step at a place says of the walk from there on.
use Rattle.std.specs.Prelude.{true, false, List, [], ◌∷◌, ◌≡◌, refl, ℕ, ◌+◌, ◌-◌, ◌≤◌, ◌<◌, min, leb, length, take, drop}
use Rattle.std.proofs.Common.{sym, ap, ◌∙◌, add-zero, arith, eqb-true, eq-eqb, ne_eqb, leb-true, leb-false, length-take, length-drop, drop_of_length-le, take_all, take-take, drop-drop}
use Rattle.std.proofs.lemmas.Bool.{false≢true}
use Rattle.octets.specs.Lists.{part}
use Rattle.octets.specs.Numbers.{little}
use Rattle.octets.specs.PartLaws.{part_def, part-drop}
use Rattle.octets.specs.Spans.{span}
use Rattle.octets.specs.declared.span.Span.{Span}
use Rattle.rows.specs.declared.Cursor.{Cursor}
use Rattle.rows.specs.declared.Step.TheVariants.{Record, Cut, End}
use Rattle.rows.specs.Records.{payload_length, kind, size, chunks, whole}
use Rattle.rows.specs.WalkLaws.{payload_length-same, kind-same, six_size, chunks-none, chunks-on}
use Rattle.rows.specs.LikeLaws.{by_test, size-first, chunks-first, chunks_only}
use Rattle.rows.specs.Steps.{step_of, step_at}

-- ---- what the header at a place says

pub payload_length-drop : (at : ℕ) (row : List ℕ) → payload_length (drop at row) ≡ little (part at 4 row)
unfolding payload_length
payload_length-drop at row = rw (part-drop 0 4 at row, add-zero)

pub kind-drop : (at : ℕ) (row : List ℕ) → kind (drop at row) ≡ little (part (at + 4) 2 row)
unfolding kind
kind-drop at row = rw (part-drop 4 2 at row)

-- ---- the step from plain numbers

pub step_end : (row : List ℕ) (at : ℕ) → length row ≤ at → step_at row at ≡ End
unfolding step_at step_of
step_end row at h = rw (drop_of_length-le row h, chunks-none)

-- the first of the records from a place on is whole where the row is long enough for it
first-whole : (l : List ℕ) → size l ≤ length l → whole (take (size l) l) ≡ true
unfolding whole
first-whole l h = eq-eqb (length (take (size l) l)) (size (take (size l) l)) (rw (size-first l, length-take) (omega arith))

first-cut : (l : List ℕ) → length l < size l → whole (take (size l) l) ≡ false
unfolding whole
first-cut l h = ne_eqb (length (take (size l) l)) (size (take (size l) l)) (λ e. absurd (omega (arith, rw (size-first l, length-take) at e)))

pub step_cut : (row : List ℕ) (at : ℕ) → at < length row → length row < at + size (drop at row) → step_at row at ≡ Cut
unfolding step_at step_of
step_cut row at h k =
    let l = drop at row in
    let some : 0 < length (drop at row) = rw length-drop (omega arith) in
    let short : length (drop at row) < size (drop at row) = rw length-drop (omega arith) in
    rw (chunks-on (drop at row) some, first-cut (drop at row) short)

pub step-whole : (row : List ℕ) (at : ℕ) → at + size (drop at row) ≤ length row
    → step_at row at ≡ Record (kind (drop at row)) (span (at + 6) (payload_length (drop at row))) (record { at = at + size (drop at row) })
unfolding step_at step_of
step-whole row at h =
    let l = drop at row in
    let six = six_size (drop at row) in
    let some : 0 < length (drop at row) = rw length-drop (omega arith) in
    let long : size (drop at row) ≤ length (drop at row) = rw length-drop (omega arith) in
    let header : take 6 (take (size l) l) ≡ take 6 l = take-take 6 (size l) l six in
    rw (
      chunks-on (drop at row) some,
      first-whole (drop at row) long,
      kind-same (take (size l) l) l header,
      payload_length-same (take (size l) l) l header,
      size-first (drop at row),
    )

-- ---- the step from the numbers that the code reads

size-drop : (at : ℕ) (row : List ℕ) → size (drop at row) ≡ 6 + little (part at 4 row)
unfolding size
size-drop at row = rw (payload_length-drop at row)

pub step-short : (row : List ℕ) (at : ℕ) → at < length row → length row < at + 6 + little (part at 4 row) → step_at row at ≡ Cut
step-short row at h k = step_cut row at h (rw size-drop (omega arith))

pub step_record : (row : List ℕ) (at n : ℕ) → n ≡ little (part at 4 row) → at + 6 + n ≤ length row
    → step_at row at ≡ Record (little (part (at + 4) 2 row)) (span (at + 6) n) (record { at = at + 6 + n })
step_record row at n e h =
    let s = size-drop at row in
    let behind : at + size (drop at row) ≡ at + 6 + n = omega arith in
    rw (step-whole row at (omega arith), behind, kind-drop at row, payload_length-drop at row, e)

-- ---- what a reader who got an answer knows

-- the walk goes through a whole record of kind k with n bytes of payload from place `start` on
pub record Passed (row : List ℕ) (at k start n : ℕ) (next : Cursor) : Type 0 where
  pub starts : start ≡ at + 6
  pub goes_on : next.at ≡ at + 6 + n
  pub inside : at + 6 + n ≤ length row
  pub walk : chunks (drop at row) ≡ part at (6 + n) row ∷ chunks (drop next.at row)
  pub whole_one : whole (part at (6 + n) row) ≡ true
  pub of_kind : kind (part at (6 + n) row) ≡ k
  pub counts : payload_length (part at (6 + n) row) ≡ n

passed : (row : List ℕ) (at n : ℕ) → n ≡ little (part at 4 row) → at + 6 + n ≤ length row
    → Passed row at (little (part (at + 4) 2 row)) (at + 6) n (record { at = at + 6 + n })
passed row at n e h =
    let l = drop at row in
    let s : size (drop at row) ≡ 6 + n = rw e (size-drop at row) in
    let some : 0 < length (drop at row) = rw length-drop (omega arith) in
    let long : size (drop at row) ≤ length (drop at row) = rw (s, length-drop) (omega arith) in
    let first : part at (6 + n) row ≡ take (size l) l = rw s (part_def at (6 + n) row) in
    let header : take 6 (part at (6 + n) row) ≡ take 6 l = rw first (take-take 6 (size l) l (six_size l)) in
    let behind : at + 6 + n ≡ at + (6 + n) = omega arith in
    record {
      starts = refl;
      goes_on = refl;
      inside = h;
      walk = rw (first, behind, ← drop-drop (6 + n) at row, ← s) (chunks-on (drop at row) some);
      whole_one = rw first (first-whole (drop at row) long);
      of_kind = kind-same (part at (6 + n) row) l header ∙ kind-drop at row;
      counts = payload_length-same (part at (6 + n) row) l header ∙ payload_length-drop at row ∙ sym e;
    }

-- a place is behind the row's end, or at a record that the end cuts off, or at a whole record
places : {P : Type 0} (row : List ℕ) (at : ℕ) → (length row ≤ at → P) → (at < length row → length row < at + 6 + little (part at 4 row) → P)
    → (at + 6 + little (part at 4 row) ≤ length row → P) → P
places {P} row at f g h =
    by_test (leb (length row) at) (λ t. f (leb-true (length row) at t))
    (λ t. by_test (leb (at + 6 + little (part at 4 row)) (length row)) (λ u. h (leb-true (at + 6 + little (part at 4 row)) (length row) u))
    (λ u. g (leb-false (length row) at t) (leb-false (at + 6 + little (part at 4 row)) (length row) u)))

pub clash : {P : Type 0} → ◌≡◌ {A = ℕ} 0 1 → P
clash e = absurd (omega arith)

pub step-passed : (row : List ℕ) (at k : ℕ) (payload : Span) (next : Cursor) → step_at row at ≡ Record k payload next
    → Passed row at k payload.place payload.length next
step-passed row at k payload next e = places row at at_end at_cut at-whole
  where
    at_end : length row ≤ at → Passed row at k payload.place payload.length next
    at_end h = clash (cc (step_end row at h))

    at_cut : at < length row → length row < at + 6 + little (part at 4 row) → Passed row at k payload.place payload.length next
    at_cut h g = clash (cc (step-short row at h g))

    at-whole : at + 6 + little (part at 4 row) ≤ length row → Passed row at k payload.place payload.length next
    at-whole h =
        let m = little (part at 4 row) in
        let d = step_record row at m refl h in
        let ek : k ≡ little (part (at + 4) 2 row) = cc in
        let ep : payload ≡ span (at + 6) m = cc in
        let ex : next ≡ record { at = at + 6 + m } = cc in
        rw (ek, ep, ex) (passed row at m refl h)

-- a record that is cut off is the last one
pub step-stopped : (row : List ℕ) (at : ℕ) → step_at row at ≡ Cut → (chunks (drop at row) ≡ drop at row ∷ []) × (whole (drop at row) ≡ false)
step-stopped row at e = places row at at_end at_cut at-whole
  where
    at_end : length row ≤ at → (chunks (drop at row) ≡ drop at row ∷ []) × (whole (drop at row) ≡ false)
    at_end h = clash (cc (step_end row at h))

    at_cut : at < length row → length row < at + 6 + little (part at 4 row) → (chunks (drop at row) ≡ drop at row ∷ []) × (whole (drop at row) ≡ false)
    at_cut h g =
        let some : 0 < length (drop at row) = rw length-drop (omega arith) in
        let short : length (drop at row) < size (drop at row) = rw (length-drop, size-drop) (omega arith) in
        (chunks_only (drop at row) some (omega arith), rw (take_all (size (drop at row)) (drop at row) (omega arith)) at (first-cut (drop at row) short))

    at-whole : at + 6 + little (part at 4 row) ≤ length row → (chunks (drop at row) ≡ drop at row ∷ []) × (whole (drop at row) ≡ false)
    at-whole h = clash (cc (step_record row at (little (part at 4 row)) refl h))

pub step-ended : (row : List ℕ) (at : ℕ) → step_at row at ≡ End → chunks (drop at row) ≡ []
step-ended row at e = places row at at_end at_cut at-whole
  where
    at_end : length row ≤ at → chunks (drop at row) ≡ []
    at_end h = rw (drop_of_length-le row h, chunks-none)

    at_cut : at < length row → length row < at + 6 + little (part at 4 row) → chunks (drop at row) ≡ []
    at_cut h g = clash (cc (step-short row at h g))

    at-whole : at + 6 + little (part at 4 row) ≤ length row → chunks (drop at row) ≡ []
    at-whole h = clash (cc (step_record row at (little (part at 4 row)) refl h))

-- ---- the walk at a place

-- a whole record that the walk meets at a place is that part of the row, and the walk goes on behind it
pub record Met (row : List ℕ) (at : ℕ) (c : List ℕ) (cs : List (List ℕ)) : Type 0 where
  pub is_part : c ≡ part at (length c) row
  pub goes_on : cs ≡ chunks (drop (at + length c) row)
  pub has_header : 6 ≤ length c
  pub inside : at + length c ≤ length row

pub walk-met : (row : List ℕ) (at : ℕ) (c : List ℕ) (cs : List (List ℕ)) → chunks (drop at row) ≡ c ∷ cs → whole c ≡ true → Met row at c cs
unfolding whole
walk-met row at c cs e w =
    let l = drop at row in
    let first = chunks-first (drop at row) c cs e in
    let same : size c ≡ size (drop at row) = rw first.0 (size-first (drop at row)) in
    let long : length c ≡ size (drop at row) = eqb-true (length c) (size c) w ∙ same in
    let room : length c ≡ min (size (drop at row)) (length row - at) = ap length first.0 ∙ rw (length-take, length-drop) in
    let six = six_size (drop at row) in
    record {
      is_part = first.0 ∙ rw (← long) (sym (part_def at (length c) row));
      goes_on = first.1 ∙ rw (← long) (ap chunks (drop-drop (length c) at row));
      has_header = omega arith;
      inside = omega arith;
    }

-- a record that is not whole is the last one
pub walk-last : (l c : List ℕ) (cs : List (List ℕ)) → chunks l ≡ c ∷ cs → whole c ≡ false → cs ≡ []
walk-last l c cs e w = by_test (leb (size l) (length l)) enough short
  where
    enough : leb (size l) (length l) ≡ true → cs ≡ []
    enough t = absurd (false≢true (sym w ∙ ap whole (chunks-first l c cs e).0 ∙ first-whole l (leb-true (size l) (length l) t)))

    short : leb (size l) (length l) ≡ false → cs ≡ []
    short t =
        let h = leb-false (size l) (length l) t in
        let k : length l ≤ size l = omega arith in
        let nothing : drop (size l) l ≡ [] = drop_of_length-le l k in
        (chunks-first l c cs e).1 ∙ rw (nothing, chunks-none)
