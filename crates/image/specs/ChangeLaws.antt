-- A change of one file that keeps its length: the walk, every place and every other file's contents stay as they were, and a good image stays good.
use Rattle.std.specs.Prelude.{true, false, List, [], ◌∷◌, ◌≡◌, ℕ, length, refl, drop, Option, Some, None}
use Rattle.std.proofs.Common.{sym, ap, ◌∙◌, arith}
use Rattle.octets.specs.Lists.{on_part, KeepsLength}
use Rattle.octets.specs.OnPartLaws.{on_part-id, on_part-twice, on_part_comm, part-on_part-same}
use Rattle.rows.specs.Records.{chunks, Like}
use Rattle.rows.specs.WalkLaws.{join-chunks}
use Rattle.rows.specs.LikeLaws.{by_test, rechunk, length-join}
use Rattle.octets.specs.declared.span.Span.{Span}
use Rattle.image.specs.Files.{contents_at, contents_length, named, file_in, on_file_in}
use Rattle.image.specs.Image.{good, spot, file, on_file, on_found}
use Rattle.image.specs.PlaceLaws.{contents_part, on_file-place}
use Rattle.image.specs.SpotLaws.{not-both, spots-apart, file-at, on_file-at, on_file-none}
use Rattle.image.specs.TitleLaws.{contents_at-same, contents_length-same, named-same, titles-like, titles-spot, titles-good, titled-on_part, titles-on_file}

nothing : (f : List ℕ → List ℕ) → KeepsLength f → f [] ≡ []
nothing f keeps = go (f []) (keeps [])
  where
    go : (l : List ℕ) → length l ≡ 0 → l ≡ []
    go [] z = refl
    go (x ∷ l) z = absurd (omega arith)

module _ (f : List ℕ → List ℕ) (keeps : KeepsLength f) where
  own_in : (p : List ℕ) (cs : List (List ℕ)) → file_in p (on_file_in p f cs) ≡ f (file_in p cs)
  unfolding file_in on_file_in
  own_in p [] = sym (nothing f keeps)
  own_in p (c ∷ cs) = by_test (named p c) hit (λ e. rw (e, e) (own_in p cs))
    where
      hit : named p c ≡ true → file_in p (on_file_in p f (c ∷ cs)) ≡ f (file_in p (c ∷ cs))
      hit e =
          let d = on_part (contents_at c) (contents_length c) f c in
          let t = titled-on_part f keeps c (contents_length c) in
          let g : named p d ≡ true = sym (named-same c d t p) ∙ e in
          let changed : drop (contents_at d) d ≡ f (drop (contents_at c) c) =
          sym (contents_part d) ∙ rw (← contents_at-same c d t, ← contents_length-same c d t) (part-on_part-same f keeps (contents_at c) (contents_length c) c ∙ ap f (contents_part c)) in
          rw (e, g) changed

  other_in : (p q : List ℕ) → (p ≡ q → ⊥) → (cs : List (List ℕ)) → file_in q (on_file_in p f cs) ≡ file_in q cs
  unfolding file_in on_file_in
  other_in p q differ [] = refl
  other_in p q differ (c ∷ cs) = by_test (named p c) hit (λ e. rw (e, other_in p q differ cs))
    where
      hit : named p c ≡ true → file_in q (on_file_in p f (c ∷ cs)) ≡ file_in q (c ∷ cs)
      hit e =
          let d = on_part (contents_at c) (contents_length c) f c in
          let g = not-both p q c differ e in
          let t = titled-on_part f keeps c (contents_length c) in
          let h : named q d ≡ false = sym (named-same c d t q) ∙ g in
          rw (e, g, h)

  module _ (p image : List ℕ) where
    -- the records afterwards are the records before, with the one changed
    pub chunks-on_file : chunks (on_file p f image) ≡ on_file_in p f (chunks image)
    unfolding on_file
    chunks-on_file = rechunk image (titles-like (titles-on_file f keeps p (chunks image)))

    pub like-on_file : Like (chunks image) (chunks (on_file p f image))
    like-on_file = rw chunks-on_file (titles-like (titles-on_file f keeps p (chunks image)))

    pub length-on_file : length (on_file p f image) ≡ length image
    length-on_file = rw (sym (join-chunks (on_file p f image))) (sym (length-join like-on_file) ∙ ap length (join-chunks image))

    pub spot-on_file : (q : List ℕ) → spot q (on_file p f image) ≡ spot q image
    unfolding spot
    spot-on_file q = rw chunks-on_file (sym (titles-spot q 0 (titles-on_file f keeps p (chunks image))))

    pub good-on_file : good (on_file p f image) ≡ good image
    unfolding good
    good-on_file = rw chunks-on_file (sym (titles-good (titles-on_file f keeps p (chunks image))))

    -- the file itself, and every other one
    pub file-on_file : file p (on_file p f image) ≡ f (file p image)
    unfolding file
    file-on_file = rw chunks-on_file (own_in p (chunks image))

    pub file-on_file-other : (q : List ℕ) → (p ≡ q → ⊥) → file q (on_file p f image) ≡ file q image
    unfolding file
    file-on_file-other q differ = rw chunks-on_file (other_in p q differ (chunks image))

    -- a change that leaves the file as it is leaves the image as it is
    pub on_file-id : f (file p image) ≡ file p image → on_file p f image ≡ image
    on_file-id e = go (spot p image) refl
      where
        go : (found : Option Span) → spot p image ≡ found → on_file p f image ≡ image
        go (Some s) h = rw (on_file-at image f p s.place s.length h) (on_part-id s.place s.length f image (rw (file-at image p s.place s.length h) at e))
        go None h = on_file-none image f p h

-- ---- two changes

module _ (f g : List ℕ → List ℕ) (keeps-f : KeepsLength f) (keeps-g : KeepsLength g) (p image : List ℕ) where
  pub on_file-twice : on_file p g (on_file p f image) ≡ on_file p (λ l. g (f l)) image
  on_file-twice = go (spot p image) refl
    where
      go : (found : Option Span) → spot p image ≡ found → on_file p g (on_file p f image) ≡ on_file p (λ l. g (f l)) image
      go (Some s) h =
          let k = spot-on_file f keeps-f p image p ∙ h in
          rw (
            on_file-at (on_file p f image) g p s.place s.length k,
            on_file-at image f p s.place s.length h,
            on_file-at image (λ l. g (f l)) p s.place s.length h,
          )
          (on_part-twice f keeps-f s.place s.length g image)
      go None h =
          let k = spot-on_file f keeps-f p image p ∙ h in
          rw (on_file-none (on_file p f image) g p k, on_file-none image f p h, on_file-none image (λ l. g (f l)) p h)

  -- changes of two files may come in either order
  pub on_file_comm : (q : List ℕ) → (p ≡ q → ⊥) → on_file p f (on_file q g image) ≡ on_file q g (on_file p f image)
  unfolding on_found
  on_file_comm q differ =
      rw (
        on_file-place p f (on_file q g image),
        on_file-place q g (on_file p f image),
        spot-on_file g keeps-g q image p,
        spot-on_file f keeps-f p image q,
        on_file-place q g image,
        on_file-place p f image,
      )
      (swap (spot p image) (spot q image) refl refl)
    where
      swap : (x y : Option Span) → spot p image ≡ x → spot q image ≡ y → on_found x f (on_found y g image) ≡ on_found y g (on_found x f image)
      swap (Some s) (Some t) h k =
          on_part_comm f g keeps-f keeps-g s.place s.length t.place t.length image (spots-apart image p q s.place s.length t.place t.length differ h k)
      swap (Some s) None h k = refl
      swap None (Some t) h k = refl
      swap None None h k = refl
