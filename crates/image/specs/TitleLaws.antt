-- What keeps each record's header, path and length keeps every place, and keeps the image good or bad.
use Rattle.std.specs.Prelude.{List, [], ◌∷◌, ◌≡◌, refl, ℕ, ◌+◌, ◌≤◌, ◌<◌, length, take}
use Rattle.std.proofs.Common.{sym, ◌∙◌, take-take, get_or-take, arith}
use Rattle.octets.specs.Lists.{on_part, KeepsLength}
use Rattle.octets.specs.PartLaws.{part-take}
use Rattle.octets.specs.OnPartLaws.{length-on_part, take-on_part-before}
use Rattle.rows.specs.Records.{Alike, Like, none, more}
use Rattle.rows.specs.WalkLaws.{kind-same, payload_length-same}
use Rattle.rows.specs.LikeLaws.{whole_same, by_test}
use Rattle.image.specs.Files.{path_length, path, contents_at, contents_length, good_record, named, spot_in, on_file_in, holds, good_in}

-- ---- two records

-- the same bytes before the contents, and as many in all
abbrev pub Titled : List ℕ → List ℕ → Type 0
Titled c d = (take (contents_at c) c ≡ take (contents_at c) d) × (length c ≡ length d)

seven : (c : List ℕ) → 7 ≤ contents_at c
unfolding contents_at
seven c = omega arith

room : (c : List ℕ) → 7 + path_length c ≤ contents_at c
unfolding contents_at
room c = omega arith

module _ (c d : List ℕ) (t : Titled c d) where
  pub titled-alike : Alike c d
  titled-alike =
      let k : 6 ≤ contents_at c = let h = seven c in omega arith in
      (sym (take-take 6 (contents_at c) c k) ∙ rw t.0 (take-take 6 (contents_at c) d k), t.1)

  pub path_length-same : path_length c ≡ path_length d
  unfolding path_length
  path_length-same =
      let k : 6 < contents_at c = let h = seven c in omega arith in
      sym (get_or-take (contents_at c) c 6 0 k) ∙ rw t.0 (get_or-take (contents_at c) d 6 0 k)

  pub contents_at-same : contents_at c ≡ contents_at d
  unfolding contents_at
  contents_at-same = rw path_length-same

  pub contents_length-same : contents_length c ≡ contents_length d
  unfolding contents_length
  contents_length-same = rw (contents_at-same, t.1)

  pub path-same : path c ≡ path d
  unfolding path
  path-same = rw (← path_length-same) (sym (part-take 7 (path_length c) (contents_at c) c (room c)) ∙ rw t.0 (part-take 7 (path_length c) (contents_at c) d (room c)))

  pub good-same : good_record c ≡ good_record d
  unfolding good_record
  good-same = rw (whole_same c d titled-alike, kind-same c d titled-alike.0, path_length-same, payload_length-same c d titled-alike.0)

  pub named-same : (p : List ℕ) → named p c ≡ named p d
  unfolding named
  named-same p = rw (good-same, path-same)

-- ---- two rows of records

pub data Titles : List (List ℕ) → List (List ℕ) → Type 0 where
  no_title : Titles [] []
  title : {c d : List ℕ} {cs ds : List (List ℕ)} → Titled c d → Titles cs ds → Titles (c ∷ cs) (d ∷ ds)

pub titles-refl : (cs : List (List ℕ)) → Titles cs cs
titles-refl [] = no_title
titles-refl (c ∷ cs) = title (refl, refl) (titles-refl cs)

pub titles-like : {cs ds : List (List ℕ)} → Titles cs ds → Like cs ds
titles-like no_title = none
titles-like (title {c} {d} t r) = more (titled-alike c d t) (titles-like r)

pub titles-spot : (p : List ℕ) (at : ℕ) {cs ds : List (List ℕ)} → Titles cs ds → spot_in p at cs ≡ spot_in p at ds
unfolding spot_in
titles-spot p at no_title = refl
titles-spot p at (title {c} {d} t r) =
    rw (named-same c d t p, contents_at-same c d t, contents_length-same c d t, t.1, titles-spot p (at + length d) r)

pub titles-holds : (p : List ℕ) {cs ds : List (List ℕ)} → Titles cs ds → holds p cs ≡ holds p ds
unfolding holds
titles-holds p no_title = refl
titles-holds p (title {c} {d} t r) = rw (named-same c d t p, titles-holds p r)

pub titles-good : {cs ds : List (List ℕ)} → Titles cs ds → good_in cs ≡ good_in ds
unfolding good_in
titles-good no_title = refl
titles-good (title {c} {d} t r) = rw (good-same c d t, path-same c d t, titles-holds (path d) r, titles-good r)

-- ---- a change of one file

module _ (f : List ℕ → List ℕ) (keeps : KeepsLength f) where
  pub titled-on_part : (c : List ℕ) (n : ℕ) → Titled c (on_part (contents_at c) n f c)
  titled-on_part c n =
      (sym (take-on_part-before f keeps (contents_at c) (contents_at c) n c (omega arith)), sym (length-on_part f keeps (contents_at c) n c))

  pub titles-on_file : (p : List ℕ) (cs : List (List ℕ)) → Titles cs (on_file_in p f cs)
  unfolding on_file_in
  titles-on_file p [] = no_title
  titles-on_file p (c ∷ cs) =
      by_test (named p c) (λ e. rw e (title (titled-on_part c (contents_length c)) (titles-refl cs)))
      (λ e. rw e (title (refl, refl) (titles-on_file p cs)))
