-- What a reader who met an item knows: of the walk from there on, of a path looked for, and of the image being good.
use Rattle.std.specs.Prelude.{true, false, List, [], ◌∷◌, ◌⊎◌, ◌≡◌, refl, ℕ, ◌+◌, ◌≤◌, ◌<◌, length, drop, Some, None}
use Rattle.std.proofs.Common.{inl, inr, ap, ◌∙◌, arith}
use Rattle.octets.specs.Lists.{part}
use Rattle.octets.specs.Same.{same_bytes}
use Rattle.octets.specs.PartLaws.{part-part}
use Rattle.rows.specs.declared.Cursor.{Cursor}
use Rattle.rows.specs.Records.{chunks, whole}
use Rattle.rows.specs.LikeLaws.{by_test}
use Rattle.rows.specs.StepLaws.{walk-met, walk-last, clash}
use Rattle.image.specs.declared.item.Item.TheVariants.{File, Other, Cut, End}
use Rattle.octets.specs.declared.span.Span.{Span}
use Rattle.octets.specs.Spans.{span, bytes_of}
use Rattle.image.specs.Files.{path_length, path, contents_at, contents_length, good_record, named, spot_in, good_in}
use Rattle.image.specs.Items.{item_of, item_at, again_at}
use Rattle.image.specs.ItemLaws.{good-whole, good-room}

-- ---- the item by the walk

module _ (image : List ℕ) (at : ℕ) where
  none_item : chunks (drop at image) ≡ [] → item_at image at ≡ End
  unfolding item_at item_of
  none_item e = rw e

  module _ (c : List ℕ) (cs : List (List ℕ)) (e : chunks (drop at image) ≡ c ∷ cs) where
    good_item : good_record c ≡ true → item_at image at ≡ File (span (at + 7) (path_length c)) (contents_length c) (record { at = at + length c })
    unfolding item_at item_of
    good_item g = rw (e, g)

    bad_item : good_record c ≡ false → whole c ≡ true → item_at image at ≡ Other (record { at = at + length c })
    unfolding item_at item_of
    bad_item g w = rw (e, g, w)

    cut_item : good_record c ≡ false → whole c ≡ false → item_at image at ≡ Cut
    unfolding item_at item_of
    cut_item g w = rw (e, g, w)

-- every place has an item
items : {P : Type 0} (image : List ℕ) (at : ℕ) → (chunks (drop at image) ≡ [] → item_at image at ≡ End → P)
    → ((c : List ℕ) (cs : List (List ℕ)) → chunks (drop at image) ≡ c ∷ cs → good_record c ≡ true
    → item_at image at ≡ File (span (at + 7) (path_length c)) (contents_length c) (record { at = at + length c }) → P)
    → ((c : List ℕ) (cs : List (List ℕ)) → chunks (drop at image) ≡ c ∷ cs → good_record c ≡ false → whole c ≡ true
    → item_at image at ≡ Other (record { at = at + length c }) → P)
    → ((c : List ℕ) → chunks (drop at image) ≡ c ∷ [] → good_record c ≡ false → item_at image at ≡ Cut → P) → P
items {P} image at on-end on-file on-other on-cut = go (chunks (drop at image)) refl
  where
    go : (cs : List (List ℕ)) → chunks (drop at image) ≡ cs → P
    go [] e = on-end e (none_item image at e)
    go (c ∷ cs) e =
        by_test (good_record c) (λ g. on-file c cs e g (good_item image at c cs e g))
        (λ g. by_test (whole c) (λ w. on-other c cs e g w (bad_item image at c cs e g w)) (λ w. on-cut c (e ∙ rw (walk-last (drop at image) c cs e w)) g (cut_item image at c cs e g w)))

-- ---- what an item says

-- a good record: its path, and where its contents stand
pub record Entry (image : List ℕ) (at : ℕ) (title : Span) (count : ℕ) (next : Cursor) : Type 0 where
  pub c : List ℕ
  pub walk : chunks (drop at image) ≡ c ∷ chunks (drop next.at image)
  pub is_good : good_record c ≡ true
  pub its_path : path c ≡ bytes_of image title
  pub its_place : title.place + title.length ≡ at + contents_at c
  pub its_count : count ≡ contents_length c
  pub on : next.at ≡ at + length c
  pub later : at < next.at
  pub inside : (title.place + title.length ≤ length image) × (next.at ≤ length image)

title-room : (c : List ℕ) → good_record c ≡ true → 7 + path_length c ≤ length c
unfolding contents_at
title-room c g = good-room c g

path-at : (image : List ℕ) (at : ℕ) (c : List ℕ) → c ≡ part at (length c) image → 7 + path_length c ≤ length c → path c ≡ bytes_of image (span (at + 7) (path_length c))
unfolding path bytes_of
path-at image at c e room = ap (λ (l : List ℕ). part 7 (path_length c) l) e ∙ part-part 7 (path_length c) at (length c) image room

place_at : (at : ℕ) (c : List ℕ) → at + 7 + path_length c ≡ at + contents_at c
unfolding contents_at
place_at at c = omega arith

pub item_entry : (image : List ℕ) (at : ℕ) (title : Span) (count : ℕ) (next : Cursor) → item_at image at ≡ File title count next → Entry image at title count next
item_entry image at title count next h =
    items image at (λ e i. clash (cc)) file (λ c cs e g w i. clash (cc)) (λ c e g i. clash (cc))
  where
    file : (c : List ℕ) (cs : List (List ℕ)) → chunks (drop at image) ≡ c ∷ cs → good_record c ≡ true
        → item_at image at ≡ File (span (at + 7) (path_length c)) (contents_length c) (record { at = at + length c }) → Entry image at title count next
    file c cs e g i =
        let met = walk-met image at c cs e (good-whole c g) in
        let et : title ≡ span (at + 7) (path_length c) = cc in
        let ec : count ≡ contents_length c = cc in
        let ex : next ≡ record { at = at + length c } = cc in
        let room = title-room c g in
        let six = met.has_header in
        let within = met.inside in
        rw (et, ec, ex)
        (record {
          c = c;
          walk = rw (← met.goes_on) e;
          is_good = g;
          its_path = path-at image at c met.is_part room;
          its_place = place_at at c;
          its_count = refl;
          on = refl;
          later = omega arith;
          inside = (omega arith, omega arith);
        })

-- a whole record that is not good
pub record Skipped (image : List ℕ) (at : ℕ) (next : Cursor) : Type 0 where
  pub c : List ℕ
  pub walk : chunks (drop at image) ≡ c ∷ chunks (drop next.at image)
  pub is_bad : good_record c ≡ false
  pub on : next.at ≡ at + length c
  pub later : at < next.at
  pub inside : next.at ≤ length image

pub item_skipped : (image : List ℕ) (at : ℕ) (next : Cursor) → item_at image at ≡ Other next → Skipped image at next
item_skipped image at next h =
    items image at (λ e i. clash (cc)) (λ c cs e g i. clash (cc)) other (λ c e g i. clash (cc))
  where
    other : (c : List ℕ) (cs : List (List ℕ)) → chunks (drop at image) ≡ c ∷ cs → good_record c ≡ false → whole c ≡ true
        → item_at image at ≡ Other (record { at = at + length c }) → Skipped image at next
    other c cs e g w i =
        let met = walk-met image at c cs e w in
        let ex : next ≡ record { at = at + length c } = cc in
        let six = met.has_header in
        let within = met.inside in
        rw ex (record { c = c; walk = rw (← met.goes_on) e; is_bad = g; on = refl; later = omega arith; inside = omega arith })

-- a record that the image's end cuts off
pub record Broken (image : List ℕ) (at : ℕ) : Type 0 where
  pub c : List ℕ
  pub walk : chunks (drop at image) ≡ c ∷ []
  pub is_bad : good_record c ≡ false

pub item_broken : (image : List ℕ) (at : ℕ) → item_at image at ≡ Cut → Broken image at
item_broken image at h =
    items image at (λ e i. clash (cc)) (λ c cs e g i. clash (cc)) (λ c cs e g w i. clash (cc)) (λ c e g i. record { c = c; walk = e; is_bad = g })

pub item_none : (image : List ℕ) (at : ℕ) → item_at image at ≡ End → chunks (drop at image) ≡ []
item_none image at h =
    items image at (λ e i. e) (λ c cs e g i. clash (cc)) (λ c cs e g w i. clash (cc)) (λ c e g i. clash (cc))

-- ---- a path looked for

module _ (image p : List ℕ) (at : ℕ) where
  pub spot_end : item_at image at ≡ End → spot_in p at (chunks (drop at image)) ≡ None
  unfolding spot_in
  spot_end h = rw (item_none image at h)

  pub spot-cut : item_at image at ≡ Cut → spot_in p at (chunks (drop at image)) ≡ None
  unfolding spot_in named
  spot-cut h = let b = item_broken image at h in rw (b.walk, b.is_bad)

  pub spot_stopped : (item_at image at ≡ Cut) ⊎ (item_at image at ≡ End) → spot_in p at (chunks (drop at image)) ≡ None
  spot_stopped (inl h) = spot-cut h
  spot_stopped (inr h) = spot_end h

  pub spot_skip : (next : Cursor) → Skipped image at next → spot_in p at (chunks (drop at image)) ≡ spot_in p next.at (chunks (drop next.at image))
  unfolding spot_in named
  spot_skip next s = rw (s.walk, s.is_bad, s.on)

  module _ (title : Span) (count : ℕ) (next : Cursor) (entry : Entry image at title count next) where
    pub spot_here : same_bytes (bytes_of image title) p ≡ true → spot_in p at (chunks (drop at image)) ≡ Some (span (title.place + title.length) count)
    unfolding spot_in named
    spot_here same = rw (entry.walk, entry.is_good, entry.its_path, same, entry.its_place, entry.its_count)

    pub spot_on : same_bytes (bytes_of image title) p ≡ false → spot_in p at (chunks (drop at image)) ≡ spot_in p next.at (chunks (drop next.at image))
    unfolding spot_in named
    spot_on other = rw (entry.walk, entry.is_good, entry.its_path, other, entry.on)

-- ---- the image good from a place on

module _ (image : List ℕ) (at : ℕ) where
  pub good_end : item_at image at ≡ End → good_in (chunks (drop at image)) ≡ true
  unfolding good_in
  good_end h = rw (item_none image at h)

  pub good-cut : item_at image at ≡ Cut → good_in (chunks (drop at image)) ≡ false
  unfolding good_in
  good-cut h = let b = item_broken image at h in rw (b.walk, b.is_bad)

  pub good_skip : (next : Cursor) → Skipped image at next → good_in (chunks (drop at image)) ≡ false
  unfolding good_in
  good_skip next s = rw (s.walk, s.is_bad)

  pub good_stopped : ((next : Cursor) × (item_at image at ≡ Other next)) ⊎ (item_at image at ≡ Cut) → good_in (chunks (drop at image)) ≡ false
  good_stopped (inl (next, h)) = good_skip next (item_skipped image at next h)
  good_stopped (inr h) = good-cut h

  module _ (title : Span) (count : ℕ) (next : Cursor) (entry : Entry image at title count next) where
    pub good_again : again_at image title next.at ≡ true → good_in (chunks (drop at image)) ≡ false
    unfolding good_in again_at
    good_again h = rw (entry.walk, entry.is_good, entry.its_path, h)

    pub good-on : again_at image title next.at ≡ false → good_in (chunks (drop at image)) ≡ good_in (chunks (drop next.at image))
    unfolding good_in again_at
    good-on h = rw (entry.walk, entry.is_good, entry.its_path, h)
