-- Laws of `on_part`: what a change of a part leaves alone, and two changes of one list.
-- None asks that the part lies inside the list: a change that keeps the length of what it is given has nothing to do behind the end.
use Rattle.std.specs.Prelude.{List, [], ◌∷◌, ◌++◌, ◌⊎◌, ◌≡◌, ℕ, zero, suc, ◌+◌, ◌-◌, ◌≤◌, min, length, take, drop, get_or, refl}
use Rattle.std.proofs.Common.{append_assoc, append-nil, inl, inr, ap, ◌∙◌, zero-add, add_assoc, suc-ne-zero, le_refl, not-suc-le-zero, le_of_suc-le-suc, length-drop, sym, suc-add, arith, length-take, length-append, take-append-drop, take-take, drop-drop}
use Rattle.std.proofs.Math.Nat.{suc-sub-suc, sub-zero, sub_self}
use Rattle.std.proofs.Math.Seq.{take-nil, drop-nil}
use Rattle.octets.specs.Lists.{part, on_part, KeepsLength}
use Rattle.octets.specs.PartLaws.{cut-same, get_or_single, length_part, part-take, take_part, part-part, drop-take, take-add-part, drop-part-rest, take-append_ge, drop-append_ge, take_same, drop-same}

-- two parts, the n places from a on and the m places from b on, of which one ends before the other begins
abbrev pub Apart : ℕ → ℕ → ℕ → ℕ → Type 0
Apart a n b m = (a + n ≤ b) ⊎ (b + m ≤ a)

module _ {A : Type 0} where
  -- ---- of any change

  -- the definition, to rewrite by at one place
  pub on_part_def : (at n : ℕ) (f : List A → List A) (l : List A) → on_part at n f l ≡ take at l ++ (f (part at n l) ++ drop (at + n) l)
  unfolding on_part
  on_part_def at n f l = refl

  -- only what the change does to that part counts
  pub on_part-same : (at n : ℕ) (f g : List A → List A) (l : List A) → f (part at n l) ≡ g (part at n l) → on_part at n f l ≡ on_part at n g l
  unfolding on_part
  on_part-same at n f g l e = rw e

  pub on_part-id : (at n : ℕ) (f : List A → List A) (l : List A) → f (part at n l) ≡ part at n l → on_part at n f l ≡ l
  unfolding on_part part
  on_part-id at n f l e = rw (e, ← drop-drop, take-append-drop, take-append-drop)

  -- a change of a part of a part is a change of a part of the whole
  pub on_part-inside : (a n b m : ℕ) (f : List A → List A) (l : List A) → b + m ≤ n → on_part a n (on_part b m f) l ≡ on_part (a + b) m f l
  unfolding on_part
  on_part-inside a n b m f l h =
      let bn : b ≤ n = omega arith in
      rw (part-part, take_part b a n l bn, take-add-part) (simp append_assoc (rw (drop-part-rest (b + m) a n l h, add_assoc)))

module _ {A : Type 0} (f : List A → List A) (keeps : KeepsLength f) where
  -- ---- length

  pub length-on_part : (at n : ℕ) → KeepsLength (on_part at n f)
  unfolding on_part
  length-on_part at n l = rw (length-append, length-append, keeps, length-take, length_part, length-drop) (omega arith)

  nothing : f [] ≡ []
  nothing = none (f []) (keeps [])
    where
      none : (l : List A) → length l ≡ 0 → l ≡ []
      none [] e = refl
      none (x ∷ l) e = absurd (suc-ne-zero (length l) e)

  -- the two ways down a list, by which the next laws go
  on_part-none : (at n : ℕ) → on_part at n f [] ≡ []
  unfolding on_part part
  on_part-none at n = rw (take-nil at, drop-nil at, drop-nil (at + n), take-nil n, nothing)

  on_part-next : (at n : ℕ) (x : A) (l : List A) → on_part (suc at) n f (x ∷ l) ≡ x ∷ on_part at n f l
  unfolding on_part part
  on_part-next at n x l = rw suc-add

  -- ---- the changed list, cut before the part and behind it

  pub take-on_part-before : (k at n : ℕ) (l : List A) → k ≤ at → take k (on_part at n f l) ≡ take k l
  take-on_part-before zero at n l h = refl
  take-on_part-before (suc k) at n [] h = rw on_part-none
  take-on_part-before (suc k) zero n (x ∷ l) h = absurd (not-suc-le-zero h)
  take-on_part-before (suc k) (suc at) n (x ∷ l) h = rw (on_part-next, take-on_part-before k at n l (le_of_suc-le-suc h))

  pub drop-on_part-before : (k at n : ℕ) (l : List A) → k ≤ at → drop k (on_part at n f l) ≡ on_part (at - k) n f (drop k l)
  drop-on_part-before zero at n l h = rw sub-zero
  drop-on_part-before (suc k) at n [] h = rw (on_part-none at n, on_part-none (at - suc k) n)
  drop-on_part-before (suc k) zero n (x ∷ l) h = absurd (not-suc-le-zero h)
  drop-on_part-before (suc k) (suc at) n (x ∷ l) h = rw (on_part-next, suc-sub-suc, drop-on_part-before k at n l (le_of_suc-le-suc h))

  -- what stands before the end of the part, once it is changed
  head : ℕ → ℕ → List A → List A
  head at n l = take at l ++ f (part at n l)

  length-head : (at n : ℕ) (l : List A) → length (head at n l) ≡ min (at + n) (length l)
  unfolding head
  length-head at n l = rw (length-append, keeps, length-take, length_part) (omega arith)

  on_part-head : (at n : ℕ) (l : List A) → on_part at n f l ≡ head at n l ++ drop (at + n) l
  unfolding head on_part
  on_part-head at n l = rw append_assoc

  head-take : (k at n : ℕ) (l : List A) → at + n ≤ k → head at n (take k l) ≡ head at n l
  unfolding head
  head-take k at n l h = let e : at ≤ k = omega arith in rw (take-take at k l e, part-take at n k l h)

  pub take-on_part-behind : (k at n : ℕ) (l : List A) → at + n ≤ k → take k (on_part at n f l) ≡ on_part at n f (take k l)
  take-on_part-behind k at n l h =
      let e : length (head at n l) ≤ k = rw length-head (omega arith) in
      let rest = drop (at + n) l in
      let count : min (k - length (head at n l)) (length rest) ≡ min (k - (at + n)) (length rest) = rw (length-head, length-drop) (omega arith) in
      rw (on_part-head at n l, take-append_ge, on_part-head at n (take k l), head-take, drop-take)
      (ap (λ (r : List A). head at n l ++ r) (take_same (k - length (head at n l)) (k - (at + n)) rest count))

  pub drop-on_part-behind : (k at n : ℕ) (l : List A) → at + n ≤ k → drop k (on_part at n f l) ≡ drop k l
  drop-on_part-behind k at n l h =
      let e : length (head at n l) ≤ k = rw length-head (omega arith) in
      rw (on_part-head, drop-append_ge, drop-drop, length-head) (drop-same (at + n + (k - min (at + n) (length l))) k l (omega arith))

  -- ---- the part that was changed, and the others

  on_part-whole : (n : ℕ) (l : List A) → on_part 0 n f (take n l) ≡ f (take n l)
  unfolding on_part part
  on_part-whole n l = rw (zero-add, take-take n n l (le_refl n), drop-take, sub_self) (append-nil (f (take n l)))

  -- a part that holds the changed one
  pub part-on_part-inside : (a n b m : ℕ) (l : List A) → a ≤ b → b + m ≤ a + n → part a n (on_part b m f l) ≡ on_part (b - a) m f (part a n l)
  unfolding part
  part-on_part-inside a n b m l h k =
      let fits : b - a + m ≤ n = omega arith in
      rw (drop-on_part-before a b m l h) (take-on_part-behind n (b - a) m (drop a l) fits)

  pub part-on_part-same : (at n : ℕ) (l : List A) → part at n (on_part at n f l) ≡ f (part at n l)
  unfolding part
  part-on_part-same at n l =
      part-on_part-inside at n at n l (le_refl at) (le_refl (at + n)) ∙ rw sub_self (on_part-whole n (drop at l))

  pub part-on_part-apart : (a n b m : ℕ) (l : List A) → Apart a n b m → part b m (on_part a n f l) ≡ part b m l
  unfolding part
  part-on_part-apart a n b m l (inl h) = rw (drop-on_part-behind b a n l h)
  part-on_part-apart a n b m l (inr h) = sym (part-take b m a (on_part a n f l) h) ∙ rw (take-on_part-before a a n l (le_refl a)) (part-take b m a l h)

  pub get_or-on_part-apart : (a n i : ℕ) (l : List A) (d : A) → Apart a n i 1 → get_or (on_part a n f l) i d ≡ get_or l i d
  get_or-on_part-apart a n i l d h = get_or_single i (on_part a n f l) d ∙ rw (part-on_part-apart a n i 1 l h) (sym (get_or_single i l d))

  -- ---- two changes

  pub on_part-twice : (at n : ℕ) (g : List A → List A) (l : List A) → on_part at n g (on_part at n f l) ≡ on_part at n (λ x. g (f x)) l
  on_part-twice at n g l =
      rw (
        on_part_def at n g (on_part at n f l),
        take-on_part-before at at n l (le_refl at),
        part-on_part-same,
        drop-on_part-behind (at + n) at n l (le_refl (at + n)),
      )
      (sym (on_part_def at n (λ x. g (f x)) l))

module _ {A : Type 0} where
  -- the first part ends before the second begins
  on_part_comm_behind : (f g : List A → List A) → KeepsLength f → KeepsLength g → (a n b m : ℕ) (l : List A) → a + n ≤ b
      → on_part a n f (on_part b m g l) ≡ on_part b m g (on_part a n f l)
  on_part_comm_behind f g keeps-f keeps-g a n b m l h =
      cut-same (a + n) (on_part a n f (on_part b m g l)) (on_part b m g (on_part a n f l))
      (rw (
        take-on_part-behind f keeps-f (a + n) a n (on_part b m g l) (le_refl (a + n)),
        take-on_part-before g keeps-g (a + n) b m l h,
        take-on_part-before g keeps-g (a + n) b m (on_part a n f l) h,
      )
      (sym (take-on_part-behind f keeps-f (a + n) a n l (le_refl (a + n)))))
      (rw (
        drop-on_part-behind f keeps-f (a + n) a n (on_part b m g l) (le_refl (a + n)),
        drop-on_part-before g keeps-g (a + n) b m l h,
        drop-on_part-before g keeps-g (a + n) b m (on_part a n f l) h,
        drop-on_part-behind f keeps-f (a + n) a n l (le_refl (a + n)),
      ))

  pub on_part_comm : (f g : List A → List A) → KeepsLength f → KeepsLength g → (a n b m : ℕ) (l : List A) → Apart a n b m
      → on_part a n f (on_part b m g l) ≡ on_part b m g (on_part a n f l)
  on_part_comm f g keeps-f keeps-g a n b m l (inl h) = on_part_comm_behind f g keeps-f keeps-g a n b m l h
  on_part_comm f g keeps-f keeps-g a n b m l (inr h) = sym (on_part_comm_behind g f keeps-g keeps-f b m a n l h)
