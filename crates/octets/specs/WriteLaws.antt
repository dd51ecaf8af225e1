-- Laws of `over` and `write_at`. A write is a change of a part, so what it leaves alone follows from the laws of `on_part`.
use Rattle.std.specs.Prelude.{List, [], ◌∷◌, ◌++◌, ◌≡◌, length, take, drop, get_or, set, refl, ℕ, zero, suc, ◌+◌, ◌-◌, ◌≤◌, ◌<◌, min}
use Rattle.std.proofs.Common.{append_assoc, append-nil, sym, ap, ◌∙◌, le_refl, not-suc-le-zero, le_of_suc-le-suc, add-one, arith, drop_of_length-le, take-take, length-drop, take-append-drop, take_all, drop-drop}
use Rattle.std.proofs.Math.Decide.{dec_le}
use Rattle.std.proofs.Math.Nat.{sub_self}
use Rattle.std.proofs.Math.Seq.{take-nil, take-length, drop-length}
use Rattle.std.proofs.lemmas.List.Edits.{sets}
use Rattle.octets.specs.Lists.{part, over, write_at, on_part, KeepsLength}
use Rattle.octets.specs.OnPartLaws.{Apart, on_part-id, on_part_comm, drop-on_part-before, drop-on_part-behind, get_or-on_part-apart, on_part_def, length-on_part, part-on_part-same, part-on_part-apart}
use Rattle.octets.specs.PartLaws.{part_def, get_or_single, length_part, length-part_in, take_min, drop_min, take_part, drop-part, take-add-part, drop-take}

module _ {A : Type 0} where
  -- ---- over

  pub length_over : (new : List A) → KeepsLength (over new)
  unfolding over
  length_over [] old = refl
  length_over (x ∷ new) [] = refl
  length_over (x ∷ new) (y ∷ old) = ap suc (length_over new old)

  pub over-split : (new old : List A) → over new old ≡ take (length old) new ++ drop (length new) old
  unfolding over
  over-split [] old = rw take-nil
  over-split (x ∷ new) [] = refl
  over-split (x ∷ new) (y ∷ old) = rw (over-split new old)

  pub over_nothing : (new : List A) → over new [] ≡ []
  unfolding over
  over_nothing [] = refl
  over_nothing (x ∷ new) = refl

  pub over-long : (new old : List A) → length old ≤ length new → over new old ≡ take (length old) new
  over-long new old h = rw (over-split, drop_of_length-le old h) (append-nil (take (length old) new))

  pub over-same : (new old : List A) → length new ≡ length old → over new old ≡ new
  over-same new old e = rw (over-split, ← e, take-length, e, drop-length) (append-nil new)

  pub over_self : (l : List A) → over l l ≡ l
  over_self l = over-same l l refl

  -- what lies under as much again does not show
  pub over-over : (a b c : List A) → length b ≤ length a → over a (over b c) ≡ over a c
  unfolding over
  over-over a [] c h = refl
  over-over [] (y ∷ b) c h = absurd (not-suc-le-zero h)
  over-over (x ∷ a) (y ∷ b) [] h = refl
  over-over (x ∷ a) (y ∷ b) (z ∷ c) h = rw (over-over a b c (le_of_suc-le-suc h))

  -- a write that breaks off after k elements
  pub over-front : (k : ℕ) (new old : List A) → over (take k new) old ≡ take k (over new old) ++ drop k old
  unfolding over
  over-front zero new old = refl
  over-front (suc k) [] old = sym (take-append-drop (suc k) old)
  over-front (suc k) (x ∷ new) [] = refl
  over-front (suc k) (x ∷ new) (y ∷ old) = rw (over-front k new old)

  pub over-take : (k : ℕ) (new old : List A) → length new ≡ length old → over (take k new) old ≡ take k new ++ drop k old
  over-take k new old e = rw (over-front, over-same new old e)

  -- `new` over the first n of a list, and over the rest
  pub take-over : (n : ℕ) (new old : List A) → take n (over new old) ≡ over new (take n old)
  unfolding over
  take-over zero [] old = refl
  take-over zero (x ∷ new) old = refl
  take-over (suc n) [] old = refl
  take-over (suc n) (x ∷ new) [] = refl
  take-over (suc n) (x ∷ new) (y ∷ old) = rw (take-over n new old)

  pub drop-over : (n : ℕ) (new old : List A) → drop n (over new old) ≡ over (drop n new) (drop n old)
  unfolding over
  drop-over zero new old = refl
  drop-over (suc n) [] old = refl
  drop-over (suc n) (x ∷ new) [] = sym (over_nothing (drop n new))
  drop-over (suc n) (x ∷ new) (y ∷ old) = drop-over n new old

  -- one list over another behind a third
  pub over-append : (a b old : List A) → over (a ++ b) old ≡ over a (take (length a) old) ++ over b (drop (length a) old)
  unfolding over
  over-append [] b old = refl
  over-append (x ∷ a) b [] = rw (over_nothing b)
  over-append (x ∷ a) b (y ∷ old) = rw (over-append a b old)

  over-rest : (new old : List A) → over new (take (length new) old) ++ drop (length new) old ≡ over new old
  unfolding over
  over-rest new old = sym (over-append new [] old) ∙ rw append-nil

  pub over-fit : (new old : List A) → over (take (length old) new) old ≡ over new old
  over-fit new old =
      let e : length (over new old) ≤ length old = rw length_over (le_refl (length old)) in
      rw (over-front, take_all (length old) (over new old) e, drop-length) (append-nil (over new old))

  -- ---- write_at

  -- the definition, to rewrite by at one place
  pub write_at_def : (at : ℕ) (new old : List A) → write_at at new old ≡ take at old ++ over new (drop at old)
  unfolding write_at
  write_at_def at new old = refl

  pub write_at-zero : (new old : List A) → write_at 0 new old ≡ over new old
  unfolding write_at
  write_at-zero new old = refl

  pub write_at-nil : (at : ℕ) (old : List A) → write_at at [] old ≡ old
  unfolding write_at over
  write_at-nil at old = take-append-drop at old

  pub write_at-on_part : (at : ℕ) (new l : List A) → write_at at new l ≡ on_part at (length new) (over new) l
  unfolding write_at on_part part
  write_at-on_part at new l = rw (← drop-drop, over-rest)

  pub length-write_at : (at : ℕ) (new : List A) → KeepsLength (write_at at new)
  length-write_at at new l = rw write_at-on_part (length-on_part (over new) (length_over new) at (length new) l)

  pub part-write_at-same : (at : ℕ) (new old : List A) → at + length new ≤ length old → part at (length new) (write_at at new old) ≡ new
  part-write_at-same at new old h =
      rw (write_at-on_part, part-on_part-same (over new) (length_over new) at (length new) old)
      (over-same new (part at (length new) old) (sym (length-part_in at (length new) old h)))

  pub part-write_at-apart : (at : ℕ) (new : List A) (b m : ℕ) (old : List A) → Apart at (length new) b m
      → part b m (write_at at new old) ≡ part b m old
  part-write_at-apart at new b m old h = rw write_at-on_part (part-on_part-apart (over new) (length_over new) at (length new) b m old h)

  pub write_at_comm : (a : ℕ) (new : List A) (b : ℕ) (other old : List A) → Apart a (length new) b (length other)
      → write_at a new (write_at b other old) ≡ write_at b other (write_at a new old)
  write_at_comm a new b other old h =
      simp write_at-on_part (on_part_comm (over new) (over other) (length_over new) (length_over other) a (length new) b (length other) old h)

  -- a place past the end is as good as the end
  pub write_at-min : (at : ℕ) (new old : List A) → write_at (min at (length old)) new old ≡ write_at at new old
  unfolding write_at
  write_at-min at new old = rw (take_min, drop_min)

  -- what does not fit is dropped
  pub write_at-fit : (at : ℕ) (new old : List A) → write_at at (take (length old - at) new) old ≡ write_at at new old
  unfolding write_at
  write_at-fit at new old = rw (← length-drop, over-fit)

  -- nothing is written behind the end
  pub write_at_out : (at : ℕ) (new old : List A) → length old ≤ at → write_at at new old ≡ old
  unfolding write_at
  write_at_out at new old h = rw (drop_of_length-le old h, take_all at old h, over_nothing) (append-nil old)

  -- ---- the written list, cut

  pub take-write_at : (k at : ℕ) (new old : List A) → take k (write_at at new old) ≡ write_at at new (take k old)
  unfolding write_at
  take-write_at zero zero new old = take-over zero new old
  take-write_at zero (suc at) new old = sym (over_nothing new)
  take-write_at (suc k) zero new old = take-over (suc k) new old
  take-write_at (suc k) (suc at) new [] = rw over_nothing
  take-write_at (suc k) (suc at) new (x ∷ old) = rw (take-write_at k at new old)

  pub drop-write_at-before : (k at : ℕ) (new old : List A) → k ≤ at → drop k (write_at at new old) ≡ write_at (at - k) new (drop k old)
  drop-write_at-before k at new old h =
      rw (write_at-on_part at new old, write_at-on_part (at - k) new (drop k old))
      (drop-on_part-before (over new) (length_over new) k at (length new) old h)

  pub drop-write_at-behind : (k at : ℕ) (new old : List A) → at + length new ≤ k → drop k (write_at at new old) ≡ drop k old
  drop-write_at-behind k at new old h = rw write_at-on_part (drop-on_part-behind (over new) (length_over new) k at (length new) old h)

  pub drop-write_at-from : (k at : ℕ) (new old : List A) → at ≤ k → drop k (write_at at new old) ≡ over (drop (k - at) new) (drop k old)
  drop-write_at-from k at new old h =
      let e : k ≡ at + (k - at) = omega arith in
      ap (λ (i : ℕ). drop i (write_at at new old)) e
      ∙ rw (← drop-drop (k - at) at (write_at at new old), drop-write_at-before at at new old (le_refl at), sub_self, write_at-zero, drop-over, drop-drop, ← e)

  -- a part that begins no later than the write: what does not fit in the part is not seen in it
  pub part-write_at-inside : (b m at : ℕ) (new old : List A) → b ≤ at → part b m (write_at at new old) ≡ write_at (at - b) new (part b m old)
  unfolding part
  part-write_at-inside b m at new old h = rw (drop-write_at-before b at new old h) (take-write_at m (at - b) new (drop b old))

  -- a part that begins no earlier than the write
  pub part-write_at-from : (b m at : ℕ) (new old : List A) → at ≤ b → part b m (write_at at new old) ≡ over (drop (b - at) new) (part b m old)
  unfolding part
  part-write_at-from b m at new old h = rw (drop-write_at-from b at new old h) (take-over m (drop (b - at) new) (drop b old))

  -- a part of what was written
  pub part-write_at_of : (b m at : ℕ) (new old : List A) → at ≤ b → b + m ≤ at + length new → b + m ≤ length old
      → part b m (write_at at new old) ≡ part (b - at) m new
  part-write_at_of b m at new old h k l =
      let count : length (part b m old) ≡ m = length-part_in b m old l in
      let long : length (part b m old) ≤ length (drop (b - at) new) = rw (count, length-drop) (omega arith) in
      rw (part-write_at-from b m at new old h, over-long (drop (b - at) new) (part b m old) long, count) (sym (part_def (b - at) m new))

  pub get_or-write_at_of : (at : ℕ) (new : List A) (i : ℕ) (old : List A) (d : A) → at ≤ i → i < at + length new → i < length old
      → get_or (write_at at new old) i d ≡ get_or new (i - at) d
  get_or-write_at_of at new i old d h k l =
      get_or_single i (write_at at new old) d
      ∙ rw (part-write_at_of i 1 at new old h (omega arith) (omega arith)) (sym (get_or_single (i - at) new d))

  pub get_or-write_at-apart : (at : ℕ) (new : List A) (i : ℕ) (old : List A) (d : A) → Apart at (length new) i 1
      → get_or (write_at at new old) i d ≡ get_or old i d
  get_or-write_at-apart at new i old d h = rw write_at-on_part (get_or-on_part-apart (over new) (length_over new) at (length new) i old d h)

  -- ---- two writes

  -- one write, and the next behind it
  pub write_at-append : (at : ℕ) (a b old : List A) → write_at (at + length a) b (write_at at a old) ≡ write_at at (a ++ b) old
  write_at-append at a b old =
      let low : at ≤ at + length a = omega arith in
      let back : at + length a - at ≡ length a = omega arith in
      rw (
        write_at_def (at + length a) b (write_at at a old),
        take-write_at,
        drop-write_at-behind (at + length a) at a old (le_refl (at + length a)),
        write_at_def at a (take (at + length a) old),
        take-take at (at + length a) old low,
        drop-take,
        back,
        ← drop-drop,
        append_assoc,
        ← over-append,
      )
      (sym (write_at_def at (a ++ b) old))

  over-part : (b m : ℕ) (new l : List A) → take m (over new (drop b l)) ≡ over new (part b m l)
  unfolding part
  over-part b m new l = take-over m new (drop b l)

  -- a write into a part is a write into the whole, of as much as fits in the part
  pub on_part-write_at : (at n offset : ℕ) (new l : List A) → on_part at n (write_at offset new) l ≡ write_at (at + offset) (take (n - offset) new) l
  on_part-write_at at n offset new l = go (dec_le n offset)
    where
      go : Dec (n ≤ offset) → on_part at n (write_at offset new) l ≡ write_at (at + offset) (take (n - offset) new) l
      go (yes h) =
          let none : n - offset ≡ 0 = omega arith in
          let short : length (part at n l) ≤ offset = rw length_part (omega arith) in
          rw (none, write_at-nil) (on_part-id at n (write_at offset new) l (write_at_out offset new (part at n l) short))
      go (no h) =
          let inside : offset ≤ n = omega arith in
          let end : at + n ≡ at + offset + (n - offset) = omega arith in
          rw (
            on_part_def at n (write_at offset new) l,
            write_at_def offset new (part at n l),
            take_part offset at n l inside,
            drop-part,
            write_at_def (at + offset) (take (n - offset) new) l,
            take-add-part,
            over-front,
            drop-drop,
            ← end,
            over-part,
          ) (simp append_assoc)

  -- a store is a write, and so is a run of stores
  pub write_at-one : (at : ℕ) (x : A) (old : List A) → write_at at (x ∷ []) old ≡ set old at x
  unfolding write_at over
  write_at-one zero x [] = refl
  write_at-one zero x (y ∷ old) = refl
  write_at-one (suc at) x [] = refl
  write_at-one (suc at) x (y ∷ old) = rw (write_at-one at x old)

  pub sets_write_at : (l : List A) (i : ℕ) (new : List A) → sets l i new ≡ write_at i new l
  sets_write_at l i [] = sym (write_at-nil i l)
  sets_write_at l i (x ∷ new) = sets_write_at (set l i x) (suc i) new ∙ rw (← write_at-one, ← add-one) (write_at-append i (x ∷ []) new l)
