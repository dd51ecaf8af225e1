-- By path and by place: a file's contents are that part of the image, and a change of a file is a change of that part.
use Rattle.std.specs.Prelude.{true, false, List, [], ◌∷◌, ◌++◌, ◌≡◌, refl, ℕ, ◌+◌, ◌-◌, ◌≤◌, length, drop, Some, None}
use Rattle.std.proofs.Common.{append_assoc, sym, ◌∙◌, arith, length-append, length-drop, take_all}
use Rattle.std.proofs.Math.Bool.{and-eq-true_iff}
use Rattle.octets.specs.Lists.{part}
use Rattle.octets.specs.Same.{same_bytes, same-eq}
use Rattle.octets.specs.PartLaws.{part_def, part-append-left, part-append-right}
use Rattle.rows.specs.Records.{chunks, join}
use Rattle.rows.specs.WalkLaws.{join-chunks}
use Rattle.rows.specs.LikeLaws.{by_test}
use Rattle.rows.specs.ChangeLaws.{on_part-left, on_part-right}
use Rattle.octets.specs.Spans.{span}
use Rattle.image.specs.Files.{path, contents_at, contents_length, good_record, named, spot_in, file_in, on_file_in, holds}
use Rattle.image.specs.Image.{spot, file, on_file, found_part, on_found, was_found}
use Rattle.image.specs.ItemLaws.{good-room}

-- ---- one record

pub named-good : (p c : List ℕ) → named p c ≡ true → good_record c ≡ true
unfolding named
named-good p c e = ((and-eq-true_iff (good_record c) (same_bytes (path c) p)).0 e).0

pub named-path : (p c : List ℕ) → named p c ≡ true → path c ≡ p
unfolding named
named-path p c e = same-eq (path c) p ((and-eq-true_iff (good_record c) (same_bytes (path c) p)).0 e).1

-- the contents end where the record ends
pub named-room : (p c : List ℕ) → named p c ≡ true → contents_at c + contents_length c ≡ length c
unfolding contents_length
named-room p c e = let h = good-room c (named-good p c e) in omega arith

pub contents_part : (c : List ℕ) → part (contents_at c) (contents_length c) c ≡ drop (contents_at c) c
unfolding contents_length
contents_part c = part_def (contents_at c) (length c - contents_at c) c ∙ take_all (length c - contents_at c) (drop (contents_at c) c) (rw length-drop (omega arith))

-- ---- the first file with a path

pub spot-none : (p : List ℕ) (at : ℕ) → spot_in p at [] ≡ None
unfolding spot_in
spot-none p at = refl

module _ (p : List ℕ) (at : ℕ) (c : List ℕ) (cs : List (List ℕ)) where
  pub spot-hit : named p c ≡ true → spot_in p at (c ∷ cs) ≡ Some (span (at + contents_at c) (contents_length c))
  unfolding spot_in
  spot-hit e = rw e

  pub spot_miss : named p c ≡ false → spot_in p at (c ∷ cs) ≡ spot_in p (at + length c) cs
  unfolding spot_in
  spot_miss e = rw e

pub spot-holds : (p : List ℕ) (at : ℕ) (cs : List (List ℕ)) → was_found (spot_in p at cs) ≡ holds p cs
unfolding spot_in was_found holds
spot-holds p at [] = refl
spot-holds p at (c ∷ cs) = by_test (named p c) (λ e. rw e) (λ e. rw e (spot-holds p (at + length c) cs))

file-found : (p front : List ℕ) (cs : List (List ℕ)) → file_in p cs ≡ found_part (spot_in p (length front) cs) (front ++ join cs)
unfolding file_in spot_in found_part join
file-found p front [] = refl
file-found p front (c ∷ cs) = by_test (named p c) hit (miss (file-found p (front ++ c) cs))
  where
    hit : named p c ≡ true → file_in p (c ∷ cs) ≡ found_part (spot_in p (length front) (c ∷ cs)) (front ++ (c ++ join cs))
    hit e =
        let room : contents_at c + contents_length c ≤ length c = rw (named-room p c e) (omega arith) in
        rw (
          e,
          part-append-right (contents_at c) (contents_length c) front (c ++ join cs),
          part-append-left (contents_at c) (contents_length c) c (join cs) room,
        )
        (sym (contents_part c))

    miss : file_in p cs ≡ found_part (spot_in p (length (front ++ c)) cs) ((front ++ c) ++ join cs) → named p c ≡ false
        → file_in p (c ∷ cs) ≡ found_part (spot_in p (length front) (c ∷ cs)) (front ++ (c ++ join cs))
    miss rest e = rw e (rw (length-append front c, append_assoc front c (join cs)) at rest)

on_file-found : (p : List ℕ) (f : List ℕ → List ℕ) (front : List ℕ) (cs : List (List ℕ))
    → front ++ join (on_file_in p f cs) ≡ on_found (spot_in p (length front) cs) f (front ++ join cs)
unfolding on_file_in spot_in on_found join
on_file-found p f front [] = refl
on_file-found p f front (c ∷ cs) = by_test (named p c) hit (miss (on_file-found p f (front ++ c) cs))
  where
    hit : named p c ≡ true → front ++ join (on_file_in p f (c ∷ cs)) ≡ on_found (spot_in p (length front) (c ∷ cs)) f (front ++ (c ++ join cs))
    hit e =
        let room : contents_at c + contents_length c ≤ length c = rw (named-room p c e) (omega arith) in
        rw (
          e,
          on_part-right (contents_at c) (contents_length c) f front (c ++ join cs),
          on_part-left (contents_at c) (contents_length c) f c (join cs) room,
        )

    miss : (front ++ c) ++ join (on_file_in p f cs) ≡ on_found (spot_in p (length (front ++ c)) cs) f ((front ++ c) ++ join cs) → named p c ≡ false
        → front ++ join (on_file_in p f (c ∷ cs)) ≡ on_found (spot_in p (length front) (c ∷ cs)) f (front ++ (c ++ join cs))
    miss rest e = rw e (rw (length-append front c, append_assoc front c (join cs), append_assoc front c (join (on_file_in p f cs))) at rest)

-- "A file's contents are handed back as that part of the image"
pub file-place : (p image : List ℕ) → file p image ≡ found_part (spot p image) image
unfolding file spot
file-place p image = rw (join-chunks image) at (file-found p [] (chunks image))

-- a change by path is a change by place
pub on_file-place : (p : List ℕ) (f : List ℕ → List ℕ) (image : List ℕ) → on_file p f image ≡ on_found (spot p image) f image
unfolding on_file spot
on_file-place p f image = rw (join-chunks image) at (on_file-found p f [] (chunks image))
