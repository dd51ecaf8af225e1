-- What an item at a place of an image says of the walk from there on.
use Rattle.std.specs.Prelude.{true, false, ◌&&◌, ◌≡◌, ◌<◌, ℕ, ◌+◌, ◌-◌, ◌≤◌, eqb, leb, ltb, length, List, drop, get_or}
use Rattle.std.proofs.Common.{ap, ◌∙◌, eqb-true, ltb-true, arith, get_or-drop}
use Rattle.std.proofs.Math.Bool.{and-eq-true_iff}
use Rattle.std.proofs.Math.Nat.{add-sub_cancel_left}
use Rattle.octets.specs.Lists.{part}
use Rattle.octets.specs.PartLaws.{drop-part, length-part_in}
use Rattle.octets.specs.declared.span.Span.{Span}
use Rattle.octets.specs.Spans.{span, bytes_of}
use Rattle.rows.specs.declared.Cursor.{Cursor}
use Rattle.rows.specs.declared.Step.TheVariants as step
use Rattle.rows.specs.Records.{size, payload_length, kind, whole}
use Rattle.rows.specs.Steps.{step_at}
use Rattle.rows.specs.StepLaws.{Passed, step-stopped, step-ended}
use Rattle.image.specs.declared.item.Item.TheVariants.{File, Other, Cut, End}
use Rattle.image.specs.Files.{good_numbers, path_length, contents_at, contents_length, good_record}
use Rattle.image.specs.Items.{item_of, item_at}

-- ---- one record

-- the path ends inside the payload
pub numbers-room : (k title count : ℕ) → good_numbers k title count ≡ true → title < count
unfolding good_numbers
numbers-room k title count g =
    let a = ((and-eq-true_iff (eqb k 1) (leb 2 title && (leb title 63 && ltb title count))).0 g).1 in
    let b = ((and-eq-true_iff (leb 2 title) (leb title 63 && ltb title count)).0 a).1 in
    ltb-true title count ((and-eq-true_iff (leb title 63) (ltb title count)).0 b).1

pub good-whole : (c : List ℕ) → good_record c ≡ true → whole c ≡ true
unfolding good_record
good-whole c g = ((and-eq-true_iff (whole c) (good_numbers (kind c) (path_length c) (payload_length c))).0 g).0

-- the path is not cut
pub good-room : (c : List ℕ) → good_record c ≡ true → contents_at c ≤ length c
unfolding good_record contents_at whole size
good-room c g =
    let both = (and-eq-true_iff (whole c) (good_numbers (kind c) (path_length c) (payload_length c))).0 g in
    let long = eqb-true (length c) (6 + payload_length c) both.0 in
    let inner = numbers-room (kind c) (path_length c) (payload_length c) both.1 in
    omega arith

pub cut-bad : (c : List ℕ) → whole c ≡ false → good_record c ≡ false
unfolding good_record
cut-bad c w = rw w

-- ---- from the numbers that the code reads to the item

module _ (image : List ℕ) (at k : ℕ) (payload : Span) (next : Cursor) (got : Passed image at k payload.place payload.length next) where
  -- how many bytes the path has, by the payload's first byte
  titled : get_or (bytes_of image payload) 0 0 ≡ path_length (part at (6 + payload.length) image)
  unfolding path_length bytes_of
  titled =
      let n = payload.length in
      let payload-first : part payload.place n image ≡ drop 6 (part at (6 + n) image) = rw (got.starts, drop-part 6 at (6 + n) image, add-sub_cancel_left 6 n) in
      ap (λ (l : List ℕ). get_or l 0 0) payload-first ∙ get_or-drop 6 (part at (6 + n) image) 0 0

  long : length (part at (6 + payload.length) image) ≡ 6 + payload.length
  long = let h = got.inside in length-part_in at (6 + payload.length) image (omega arith)

  -- the record is good by the numbers that were read
  tested : (t : ℕ) → t ≡ get_or (bytes_of image payload) 0 0 → good_record (part at (6 + payload.length) image) ≡ good_numbers k t payload.length
  unfolding good_record
  tested t e = rw (got.whole_one, got.of_kind, ← titled, ← e, got.counts)

  onward : next ≡ record { at = at + length (part at (6 + payload.length) image) }
  onward = rw long (let e : next.at ≡ at + (6 + payload.length) = got.goes_on ∙ omega arith in ap (λ (x : ℕ). record { at = x }) e)

  pub item_file : (t : ℕ) → t ≡ get_or (bytes_of image payload) 0 0 → good_numbers k t payload.length ≡ true
      → File (span (payload.place + 1) t) (payload.length - (t + 1)) next ≡ item_at image at
  unfolding item_at item_of contents_length contents_at
  item_file t e g =
      let n = payload.length in
      let seven : payload.place + 1 ≡ at + 7 = let s = got.starts in omega arith in
      let rest : n - (t + 1) ≡ 6 + n - (7 + t) = omega arith in
      rw (got.walk, tested t e, g, ← titled, ← e, ← onward, long, seven, rest)

  pub item_other : (t : ℕ) → t ≡ get_or (bytes_of image payload) 0 0 → good_numbers k t payload.length ≡ false → Other next ≡ item_at image at
  unfolding item_at item_of
  item_other t e g = rw (got.walk, tested t e, g, got.whole_one, ← onward)

  -- the path lies in the payload, and the payload in the image
  pub item_room : (t : ℕ) → good_numbers k t payload.length ≡ true → (t + 1 ≤ payload.length) × (payload.place + payload.length ≤ length image)
  item_room t g =
      let h = numbers-room k t payload.length g in
      let s = got.starts in
      let i = got.inside in
      (omega arith, omega arith)

pub item_cut : (image : List ℕ) (at : ℕ) → step_at image at ≡ step.Cut → Cut ≡ item_at image at
unfolding item_at item_of
item_cut image at e =
    let s = step-stopped image at e in
    rw (s.0, cut-bad (drop at image) s.1, s.1)

pub item_end : (image : List ℕ) (at : ℕ) → step_at image at ≡ step.End → End ≡ item_at image at
unfolding item_at item_of
item_end image at e = rw (step-ended image at e)
