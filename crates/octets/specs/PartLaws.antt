-- Laws of `part`: its length, its elements, parts of parts, and parts of two lists in a row.
use Rattle.std.specs.Prelude.{List, [], ◌∷◌, ◌++◌, ◌≡◌, ℕ, zero, suc, ◌+◌, ◌-◌, ◌≤◌, ◌<◌, min, take, drop, get_or, refl, length}
use Rattle.std.proofs.Common.{sym, ap, ◌∙◌, add-zero, length-take, take-append-drop, drop_of_length-le, get_or-take, get_or-drop, arith, length-drop, take-take, drop-drop, take-add}
use Rattle.std.proofs.Math.Nat.{zero-min, min-zero, suc-min-suc, sub-zero, zero-sub, suc-sub-suc}
use Rattle.std.proofs.Math.Seq.{take-length, take-nil, take-append-add, drop-append-add}
use Rattle.std.proofs.lemmas.List.{take-append-le, drop-append-le}
use Rattle.octets.specs.Lists.{part}

module _ {A : Type 0} where
  -- ---- what the library lacks of `take` and `drop`

  -- a count past the end is as good as the end
  pub take_min : (n : ℕ) (l : List A) → take (min n (length l)) l ≡ take n l
  take_min zero l = rw zero-min
  take_min (suc n) [] = rw min-zero
  take_min (suc n) (x ∷ l) = rw (suc-min-suc, take_min n l)

  pub drop_min : (n : ℕ) (l : List A) → drop (min n (length l)) l ≡ drop n l
  drop_min zero l = rw zero-min
  drop_min (suc n) [] = rw min-zero
  drop_min (suc n) (x ∷ l) = rw (suc-min-suc, drop_min n l)

  pub take_same : (i j : ℕ) (l : List A) → min i (length l) ≡ min j (length l) → take i l ≡ take j l
  take_same i j l e = sym (take_min i l) ∙ rw e (take_min j l)

  pub drop-same : (i j : ℕ) (l : List A) → min i (length l) ≡ min j (length l) → drop i l ≡ drop j l
  drop-same i j l e = sym (drop_min i l) ∙ rw e (drop_min j l)

  -- past the seam of two lists
  pub take-append_ge : (k : ℕ) (l m : List A) → length l ≤ k → take k (l ++ m) ≡ l ++ take (k - length l) m
  take-append_ge k l m h =
      let e : k ≡ length l + (k - length l) = omega arith in
      ap (λ (i : ℕ). take i (l ++ m)) e ∙ take-append-add l m (k - length l)

  pub drop-append_ge : (k : ℕ) (l m : List A) → length l ≤ k → drop k (l ++ m) ≡ drop (k - length l) m
  drop-append_ge k l m h =
      let e : k ≡ length l + (k - length l) = omega arith in
      ap (λ (i : ℕ). drop i (l ++ m)) e ∙ drop-append-add l m (k - length l)

  pub drop-take : (k n : ℕ) (l : List A) → drop k (take n l) ≡ take (n - k) (drop k l)
  drop-take zero n l = rw sub-zero
  drop-take (suc k) zero l = rw zero-sub
  drop-take (suc k) (suc n) [] = rw take-nil
  drop-take (suc k) (suc n) (x ∷ l) = rw (suc-sub-suc, drop-take k n l)

  -- two lists that agree before a place and from it on are the same
  pub cut-same : (k : ℕ) (l m : List A) → take k l ≡ take k m → drop k l ≡ drop k m → l ≡ m
  cut-same k l m e f = sym (take-append-drop k l) ∙ rw (e, f) (take-append-drop k m)

  -- the definition, to rewrite by at one place
  pub part_def : (at n : ℕ) (l : List A) → part at n l ≡ take n (drop at l)
  unfolding part
  part_def at n l = refl

  -- ---- length

  pub length_part : (at n : ℕ) (l : List A) → length (part at n l) ≡ min n (length l - at)
  unfolding part
  length_part at n l = rw (length-take, length-drop)

  pub length-part_in : (at n : ℕ) (l : List A) → at + n ≤ length l → length (part at n l) ≡ n
  length-part_in at n l h = rw length_part (omega arith)

  -- ---- the whole, and nothing

  pub part_all : (l : List A) → part 0 (length l) l ≡ l
  part_all l = rw part_def (take-length l)

  pub part_out : (at n : ℕ) (l : List A) → length l ≤ at → part at n l ≡ []
  unfolding part
  part_out at n l h = rw (drop_of_length-le l h, take-nil)

  -- ---- parts of parts

  pub take_part : (k at n : ℕ) (l : List A) → k ≤ n → take k (part at n l) ≡ part at k l
  unfolding part
  take_part k at n l h = rw take-take

  pub drop-part : (k at n : ℕ) (l : List A) → drop k (part at n l) ≡ part (at + k) (n - k) l
  unfolding part
  drop-part k at n l = rw (drop-take, drop-drop)

  pub part-take : (at n k : ℕ) (l : List A) → at + n ≤ k → part at n (take k l) ≡ part at n l
  unfolding part
  part-take at n k l h = let e : n ≤ k - at = omega arith in rw (drop-take, take-take)

  pub part-drop : (at n k : ℕ) (l : List A) → part at n (drop k l) ≡ part (k + at) n l
  unfolding part
  part-drop at n k l = rw drop-drop

  pub part-part : (a n b m : ℕ) (l : List A) → a + n ≤ m → part a n (part b m l) ≡ part (b + a) n l
  unfolding part
  part-part a n b m l h = part-take a n m (drop b l) h ∙ part-drop a n b l

  -- a part, cut in two
  pub part-add : (at n m : ℕ) (l : List A) → part at (n + m) l ≡ part at n l ++ part (at + n) m l
  unfolding part
  part-add at n m l = rw (take-add, drop-drop)

  -- the first a + n: the first a, then a part
  pub take-add-part : (a n : ℕ) (l : List A) → take (a + n) l ≡ take a l ++ part a n l
  unfolding part
  take-add-part a n l = take-add a n l

  -- what is left of a part, and what comes behind it
  pub drop-part-rest : (k at n : ℕ) (l : List A) → k ≤ n → drop k (part at n l) ++ drop (at + n) l ≡ drop (at + k) l
  unfolding part
  drop-part-rest k at n l h =
      let e : at + n ≡ at + k + (n - k) = omega arith in
      rw (drop-part, e, ← drop-drop (n - k) (at + k) l) (take-append-drop (n - k) (drop (at + k) l))

  -- ---- parts of two lists in a row

  pub part-append-left : (at n : ℕ) (l m : List A) → at + n ≤ length l → part at n (l ++ m) ≡ part at n l
  unfolding part
  part-append-left at n l m h =
      let e : at ≤ length l = omega arith in
      let f : n ≤ length (drop at l) = rw length-drop (omega arith) in
      rw (drop-append-le, take-append-le)

  pub part-append-right : (at n : ℕ) (l m : List A) → part (length l + at) n (l ++ m) ≡ part at n m
  unfolding part
  part-append-right at n l m = rw drop-append-add

  -- ---- an element

  pub get_or_part : (at n : ℕ) (l : List A) (i : ℕ) (d : A) → i < n → get_or (part at n l) i d ≡ get_or l (at + i) d
  unfolding part
  get_or_part at n l i d h = rw (get_or-take, get_or-drop)

  -- an element is a part of one element
  pub get_or_single : (i : ℕ) (l : List A) (d : A) → get_or l i d ≡ get_or (part i 1 l) 0 d
  get_or_single i l d = rw (get_or_part i 1 l 0 d (omega arith), add-zero)
