-- A part lent to be changed, cut to the row as `parts::piece` is: from place `at`, or the row's end, over n bytes, or to the row's end. What is lent is the
-- part, and what comes back in its place changes that part and nothing else.
use Rattle.std.specs.Prelude.{List, ◌≡◌, length, drop, ℕ, ◌+◌, ◌-◌, min}
use Rattle.std.proofs.Common.{arith, drop-drop, length-drop}
use borrow.Rule.Slice.PartMut.{mid_of, put_mid}
use Rattle.octets.specs.Lists.{part, on_part}
use Rattle.octets.specs.PartLaws.{take_min, drop_min}

module _ {A : Type 0} (at n a e : ℕ) (l : List A) (start : a ≡ min at (length l)) (end : e ≡ min (a + n) (length l)) where
  pub lent-part : mid_of a (e - a) l ≡ part at n l
  unfolding part
  lent-part =
      let count : e - a ≡ min n (length (drop a l)) = rw length-drop (omega arith) in
      rw (count, take_min, start, drop_min)

  lent-rest : drop (e - a) (drop a l) ≡ drop (at + n) l
  lent-rest =
      let behind : a + (e - a) ≡ min (at + n) (length l) = omega arith in
      rw (drop-drop, behind, drop_min)

  pub lent_back : (f : List A → List A) (now : List A) → now ≡ f (mid_of a (e - a) l) → put_mid a (e - a) l now ≡ on_part at n f l
  unfolding on_part
  lent_back f now same = rw (same, lent-part, lent-rest, start, take_min)
