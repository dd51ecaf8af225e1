-- A file's path stands in the store right before its contents.
use Rattle.std.specs.Prelude.{true, false, ◌≡◌, ℕ, ◌+◌, ◌-◌, ◌≤◌, List, [], ◌∷◌, ◌++◌, refl, length, Some}
use Rattle.std.proofs.Common.{append_assoc, ap, sym, ◌∙◌, length-append, arith}
use Rattle.octets.specs.Lists.{part}
use Rattle.octets.specs.PartLaws.{length-part_in, part-append-left, part-append-right}
use Rattle.rows.specs.Records.{chunks, join}
use Rattle.rows.specs.WalkLaws.{join-chunks}
use Rattle.rows.specs.LikeLaws.{by_test}
use Rattle.rows.specs.StepLaws.{clash}
use Rattle.octets.specs.Spans.{span}
use Rattle.octets.specs.SpanLaws.{same_found}
use Rattle.image.specs.Files.{path_length, path, contents_at, named, spot_in}
use Rattle.image.specs.Image.{spot}
use Rattle.image.specs.ItemLaws.{good-room}
use Rattle.image.specs.PlaceLaws.{named-good, named-path, spot-none, spot-hit, spot_miss}

module _ (c : List ℕ) where
  contents_behind : contents_at c ≡ 7 + path_length c
  unfolding contents_at
  contents_behind = refl

  path-length : (p : List ℕ) → named p c ≡ true → length p ≡ path_length c
  unfolding path
  path-length p e =
      let room = good-room c (named-good p c e) in
      let at = contents_behind in
      ap length (sym (named-path p c e)) ∙ length-part_in 7 (path_length c) c (omega arith)

  -- the path of a file's record, by its place
  path-part : (p : List ℕ) → named p c ≡ true → part 7 (length p) c ≡ p
  unfolding path
  path-part p e = rw (path-length p e) (named-path p c e)

title_in : (p front : List ℕ) (cs : List (List ℕ)) (a n : ℕ) → spot_in p (length front) cs ≡ Some (span a n)
    → (length front + 7 + length p ≤ a) × (part (a - length p) (length p) (front ++ join cs) ≡ p)
unfolding join
title_in p front [] a n h = clash (cc (spot-none p (length front)))
title_in p front (c ∷ cs) a n h = by_test (named p c) hit (miss (title_in p (front ++ c) cs a n))
  where
    hit : named p c ≡ true → (length front + 7 + length p ≤ a) × (part (a - length p) (length p) (front ++ (c ++ join cs)) ≡ p)
    hit e =
        let place : a ≡ length front + contents_at c = (same_found (sym h ∙ spot-hit p (length front) c cs e)).0 in
        let at = contents_behind c in
        let long = path-length c p e in
        let room = good-room c (named-good p c e) in
        let here : a - length p ≡ length front + 7 = omega arith in
        let fits : 7 + length p ≤ length c = omega arith in (
          omega arith,
          rw (here, part-append-right 7 (length p) front (c ++ join cs), part-append-left 7 (length p) c (join cs) fits) (path-part c p e),
        )

    miss : (spot_in p (length (front ++ c)) cs ≡ Some (span a n) → (length (front ++ c) + 7 + length p ≤ a) × (part (a - length p) (length p) ((front ++ c) ++ join cs) ≡ p))
        → named p c ≡ false → (length front + 7 + length p ≤ a) × (part (a - length p) (length p) (front ++ (c ++ join cs)) ≡ p)
    miss rest e =
        let r = rest (rw (length-append front c) (sym (spot_miss p (length front) c cs e) ∙ h)) in
        let low = r.0 in
        let both = length-append front c in
        (omega arith, rw (append_assoc front c (join cs)) at r.1)

module _ (p store : List ℕ) (a n : ℕ) (found : spot p store ≡ Some (span a n)) where
  -- header and path stand before the contents
  pub spot-behind : 7 + length p ≤ a
  unfolding spot
  spot-behind = let r = (title_in p [] (chunks store) a n found).0 in omega arith

  pub title-before : part (a - length p) (length p) store ≡ p
  unfolding spot
  title-before = rw (join-chunks store) at (title_in p [] (chunks store) a n found).1
