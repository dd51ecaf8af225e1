-- Where the files of an image stand: inside it, each at its own place; two files share no byte.
use Rattle.std.specs.Prelude.{true, false, List, [], ◌∷◌, ◌++◌, ◌≡◌, ℕ, ◌+◌, ◌-◌, ◌≤◌, length, Some, None}
use Rattle.std.proofs.Common.{inl, inr, sym, ap, ◌∙◌, length-append, arith}
use Rattle.octets.specs.Lists.{part, on_part}
use Rattle.octets.specs.PartLaws.{length-part_in}
use Rattle.octets.specs.OnPartLaws.{Apart}
use Rattle.rows.specs.Records.{chunks, join}
use Rattle.rows.specs.WalkLaws.{join-chunks}
use Rattle.rows.specs.LikeLaws.{by_test}
use Rattle.rows.specs.StepLaws.{clash}
use Rattle.octets.specs.Spans.{span}
use Rattle.octets.specs.SpanLaws.{same_found}
use Rattle.image.specs.Files.{path_length, path, contents_at, contents_length, named, spot_in}
use Rattle.image.specs.Image.{spot, file, on_file, found_part, on_found}
use Rattle.image.specs.PlaceLaws.{named-path, named-room, spot-none, spot-hit, spot_miss, file-place, on_file-place}

-- ---- where files stand

-- a record is no file of two paths
pub not-both : (p q c : List ℕ) → (p ≡ q → ⊥) → named p c ≡ true → named q c ≡ false
not-both p q c differ e = by_test (named q c) (λ g. absurd (differ (sym (named-path p c e) ∙ named-path q c g))) (λ g. g)

-- the contents stand among the records' bytes
within : (p : List ℕ) (at : ℕ) (cs : List (List ℕ)) (a n : ℕ) → spot_in p at cs ≡ Some (span a n) → (at ≤ a) × (a + n ≤ at + length (join cs))
unfolding join
within p at [] a n h = clash (cc (spot-none p at))
within p at (c ∷ cs) a n h = by_test (named p c) hit (miss (within p (at + length c) cs a n))
  where
    hit : named p c ≡ true → (at ≤ a) × (a + n ≤ at + length (c ++ join cs))
    hit e =
        let s = same_found (sym h ∙ spot-hit p at c cs e) in
        let ea : a ≡ at + contents_at c = s.0 in
        let en : n ≡ contents_length c = s.1 in
        let room = named-room p c e in
        (omega arith, rw length-append (omega arith))

    miss : (spot_in p (at + length c) cs ≡ Some (span a n) → (at + length c ≤ a) × (a + n ≤ at + length c + length (join cs))) → named p c ≡ false
        → (at ≤ a) × (a + n ≤ at + length (c ++ join cs))
    miss rest e =
        let r = rest (sym (spot_miss p at c cs e) ∙ h) in
        (omega arith, rw length-append (omega arith))

apart_in : (p q : List ℕ) → (p ≡ q → ⊥) → (at : ℕ) (cs : List (List ℕ)) (a n b m : ℕ) → spot_in p at cs ≡ Some (span a n) → spot_in q at cs ≡ Some (span b m) → Apart a n b m
apart_in p q differ at [] a n b m h k = clash (cc (spot-none p at))
apart_in p q differ at (c ∷ cs) a n b m h k = by_test (named p c) first (λ e. by_test (named q c) (second e) (neither (apart_in p q differ (at + length c) cs a n b m) e))
  where
    first : named p c ≡ true → Apart a n b m
    first e =
        let s = same_found (sym h ∙ spot-hit p at c cs e) in
        let ea : a ≡ at + contents_at c = s.0 in
        let en : n ≡ contents_length c = s.1 in
        let room = named-room p c e in
        let behind = within q (at + length c) cs b m (sym (spot_miss q at c cs (not-both p q c differ e)) ∙ k) in
        inl (omega arith)

    second : named p c ≡ false → named q c ≡ true → Apart a n b m
    second e g =
        let s = same_found (sym k ∙ spot-hit q at c cs g) in
        let eb : b ≡ at + contents_at c = s.0 in
        let em : m ≡ contents_length c = s.1 in
        let room = named-room q c g in
        let behind = within p (at + length c) cs a n (sym (spot_miss p at c cs e) ∙ h) in
        inr (omega arith)

    neither : (spot_in p (at + length c) cs ≡ Some (span a n) → spot_in q (at + length c) cs ≡ Some (span b m) → Apart a n b m) → named p c ≡ false → named q c ≡ false → Apart a n b m
    neither rest e g = rest (sym (spot_miss p at c cs e) ∙ h) (sym (spot_miss q at c cs g) ∙ k)

-- ---- where their paths stand

-- a path stands right before the contents, behind its length
named-title : (p c : List ℕ) → named p c ≡ true → contents_at c ≡ 7 + length p
unfolding contents_at path
named-title p c e =
    let room : 7 + path_length c ≤ length c = let h = named-room p c e in omega arith in
    let long : length p ≡ path_length c = ap length (sym (named-path p c e)) ∙ length-part_in 7 (path_length c) c room in
    omega arith

title-within : (p : List ℕ) (at : ℕ) (cs : List (List ℕ)) (a n : ℕ) → spot_in p at cs ≡ Some (span a n) → at + length p ≤ a
title-within p at [] a n h = clash (cc (spot-none p at))
title-within p at (c ∷ cs) a n h = by_test (named p c) hit (miss (title-within p (at + length c) cs a n))
  where
    hit : named p c ≡ true → at + length p ≤ a
    hit e =
        let s = same_found (sym h ∙ spot-hit p at c cs e) in
        let ea : a ≡ at + contents_at c = s.0 in
        let title = named-title p c e in
        omega arith

    miss : (spot_in p (at + length c) cs ≡ Some (span a n) → at + length c + length p ≤ a) → named p c ≡ false → at + length p ≤ a
    miss rest e = let r = rest (sym (spot_miss p at c cs e) ∙ h) in omega arith

title-apart_in : (p q : List ℕ) → (p ≡ q → ⊥) → (at : ℕ) (cs : List (List ℕ)) (a n b m : ℕ) → spot_in p at cs ≡ Some (span a n) → spot_in q at cs ≡ Some (span b m)
    → Apart (a - length p) (length p) b m
title-apart_in p q differ at [] a n b m h k = clash (cc (spot-none p at))
title-apart_in p q differ at (c ∷ cs) a n b m h k =
    by_test (named p c) first (λ e. by_test (named q c) (second e) (neither (title-apart_in p q differ (at + length c) cs a n b m) e))
  where
    first : named p c ≡ true → Apart (a - length p) (length p) b m
    first e =
        let s = same_found (sym h ∙ spot-hit p at c cs e) in
        let ea : a ≡ at + contents_at c = s.0 in
        let room = named-room p c e in
        let title = named-title p c e in
        let behind = within q (at + length c) cs b m (sym (spot_miss q at c cs (not-both p q c differ e)) ∙ k) in
        inl (omega arith)

    second : named p c ≡ false → named q c ≡ true → Apart (a - length p) (length p) b m
    second e g =
        let s = same_found (sym k ∙ spot-hit q at c cs g) in
        let eb : b ≡ at + contents_at c = s.0 in
        let em : m ≡ contents_length c = s.1 in
        let room = named-room q c g in
        let behind = title-within p (at + length c) cs a n (sym (spot_miss p at c cs e) ∙ h) in
        inr (omega arith)

    neither : (spot_in p (at + length c) cs ≡ Some (span a n) → spot_in q (at + length c) cs ≡ Some (span b m) → Apart (a - length p) (length p) b m) → named p c ≡ false → named q c ≡ false
        → Apart (a - length p) (length p) b m
    neither rest e g = rest (sym (spot_miss p at c cs e) ∙ h) (sym (spot_miss q at c cs g) ∙ k)

module _ (image : List ℕ) where
  -- a file's contents lie inside the image
  pub spot-inside : (p : List ℕ) (a n : ℕ) → spot p image ≡ Some (span a n) → a + n ≤ length image
  unfolding spot
  spot-inside p a n h = let w = rw (join-chunks image) at (within p 0 (chunks image) a n h).1 in omega arith

  -- two files share no byte
  pub spots-apart : (p q : List ℕ) (a n b m : ℕ) → (p ≡ q → ⊥) → spot p image ≡ Some (span a n) → spot q image ≡ Some (span b m) → Apart a n b m
  unfolding spot
  spots-apart p q a n b m differ h k = apart_in p q differ 0 (chunks image) a n b m h k

  -- a file's path stands before its contents, inside the image
  pub title-inside : (p : List ℕ) (a n : ℕ) → spot p image ≡ Some (span a n) → length p ≤ a
  unfolding spot
  title-inside p a n h = let w = title-within p 0 (chunks image) a n h in omega arith

  -- nor does one file's path share a byte with another file
  pub title-apart : (p q : List ℕ) (a n b m : ℕ) → (p ≡ q → ⊥) → spot p image ≡ Some (span a n) → spot q image ≡ Some (span b m) → Apart (a - length p) (length p) b m
  unfolding spot
  title-apart p q a n b m differ h k = title-apart_in p q differ 0 (chunks image) a n b m h k

  -- a file found at a place is that part, as long as was found; a file that is not found has no bytes
  pub file-at : (p : List ℕ) (a n : ℕ) → spot p image ≡ Some (span a n) → file p image ≡ part a n image
  unfolding found_part
  file-at p a n h = file-place p image ∙ rw h

  pub file-none : (p : List ℕ) → spot p image ≡ None → file p image ≡ []
  unfolding found_part
  file-none p h = file-place p image ∙ rw h

  pub length-file : (p : List ℕ) (a n : ℕ) → spot p image ≡ Some (span a n) → length (file p image) ≡ n
  length-file p a n h = rw (file-at p a n h) (length-part_in a n image (spot-inside p a n h))

  module _ (f : List ℕ → List ℕ) where
    pub on_file-at : (p : List ℕ) (a n : ℕ) → spot p image ≡ Some (span a n) → on_file p f image ≡ on_part a n f image
    unfolding on_found
    on_file-at p a n h = on_file-place p f image ∙ rw h

    pub on_file-none : (p : List ℕ) → spot p image ≡ None → on_file p f image ≡ image
    unfolding on_found
    on_file-none p h = on_file-place p f image ∙ rw h
