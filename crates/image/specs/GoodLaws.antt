-- In a good image every record is a file, and is found by its path.
use Rattle.std.specs.Prelude.{true, false, not, ◌&&◌, List, [], ◌∷◌, ◌++◌, ◌≡◌, ℕ, ◌+◌, length, Some}
use Rattle.std.proofs.Common.{sym, ◌∙◌, zero-add, arith, length-append}
use Rattle.std.proofs.Math.Bool.{and-eq-true_iff}
use Rattle.std.proofs.lemmas.Bool.{false≢true, not-true}
use Rattle.octets.specs.Same.{same_refl}
use Rattle.rows.specs.Records.{chunks, join}
use Rattle.rows.specs.LikeLaws.{by_test}
use Rattle.octets.specs.Spans.{span}
use Rattle.image.specs.Files.{path, contents_at, contents_length, good_record, named, spot_in, holds, good_in}
use Rattle.image.specs.Image.{good, spot}
use Rattle.image.specs.PlaceLaws.{named-path, spot-hit, spot_miss}

own-path : (c : List ℕ) → good_record c ≡ true → named (path c) c ≡ true
unfolding named
own-path c g = rw (g, same_refl (path c))

holds_here : (p : List ℕ) (xs : List (List ℕ)) (c : List ℕ) (ys : List (List ℕ)) → named p c ≡ true → holds p (xs ++ (c ∷ ys)) ≡ true
unfolding holds
holds_here p [] c ys e = rw e
holds_here p (x ∷ xs) c ys e = by_test (named p x) (λ g. rw g) (λ g. rw g (holds_here p xs c ys e))

-- what a good row says of its first record and of those behind it
first_good : (c : List ℕ) (cs : List (List ℕ)) → good_in (c ∷ cs) ≡ true → (good_record c ≡ true) × (holds (path c) cs ≡ false) × (good_in cs ≡ true)
unfolding good_in
first_good c cs e =
    let a = (and-eq-true_iff (good_record c) (not (holds (path c) cs) && good_in cs)).0 e in
    let b = (and-eq-true_iff (not (holds (path c) cs)) (good_in cs)).0 a.1 in
    (a.0, not-true (holds (path c) cs) b.0, b.1)

good-each : (xs : List (List ℕ)) (c : List ℕ) (ys : List (List ℕ)) → good_in (xs ++ (c ∷ ys)) ≡ true → good_record c ≡ true
good-each [] c ys e = (first_good c ys e).0
good-each (x ∷ xs) c ys e = good-each xs c ys (first_good x (xs ++ (c ∷ ys)) e).2

found_in : (at : ℕ) (xs : List (List ℕ)) (c : List ℕ) (ys : List (List ℕ)) → good_in (xs ++ (c ∷ ys)) ≡ true
    → spot_in (path c) at (xs ++ (c ∷ ys)) ≡ Some (span (at + length (join xs) + contents_at c) (contents_length c))
unfolding join
found_in at [] c ys e =
    let z : at + 0 + contents_at c ≡ at + contents_at c = omega arith in
    rw z (spot-hit (path c) at c ys (own-path c (good-each [] c ys e)))
found_in at (x ∷ xs) c ys e =
    let g = good-each (x ∷ xs) c ys e in
    let f = first_good x (xs ++ (c ∷ ys)) e in
    let z : at + length (x ++ join xs) + contents_at c ≡ at + length x + length (join xs) + contents_at c = rw length-append (omega arith) in
    rw z (spot_miss (path c) at x (xs ++ (c ∷ ys)) (other f g) ∙ found_in (at + length x) xs c ys f.2)
  where
    other : (good_record x ≡ true) × (holds (path x) (xs ++ (c ∷ ys)) ≡ false) × (good_in (xs ++ (c ∷ ys)) ≡ true) → good_record c ≡ true → named (path c) x ≡ false
    other f g =
        by_test (named (path c) x)
        (λ n. absurd (false≢true (sym f.1 ∙ holds_here (path x) xs c ys (rw (named-path (path c) x n) (own-path c g)))))
        (λ n. n)

-- every record of a good image is good, and its path leads to its own contents: no other record has that path
module _ (image : List ℕ) (xs : List (List ℕ)) (c : List ℕ) (ys : List (List ℕ)) (walk : chunks image ≡ xs ++ (c ∷ ys)) (is_good : good image ≡ true) where
  pub good_record_lem : good_record c ≡ true
  unfolding good
  good_record_lem = good-each xs c ys (rw walk at is_good)

  pub good-found : spot (path c) image ≡ Some (span (length (join xs) + contents_at c) (contents_length c))
  unfolding good spot
  good-found = rw walk (found_in 0 xs c ys (rw walk at is_good) ∙ rw zero-add)
