-- Laws of the loops here: a row that is written element by element, and a test of every byte.
use Rattle.std.specs.Prelude.{Bool, true, false, ◌&&◌, List, [], ◌∷◌, ◌≡◌, ℕ, ◌+◌, ◌-◌, ◌≤◌, ◌<◌, min, length, take, drop, get_or, set}
use Rattle.std.proofs.Common.{◌∙◌, add-one, arith, drop_of_length-le, take-suc, drop-cons, length-take-le}
use Rattle.lines.specs.Wrote.{Wrote, most}
use Rattle.octets.specs.Lists.{write_at}
use Rattle.octets.specs.PartLaws.{take_same}
use Rattle.octets.specs.WriteLaws.{write_at-one, write_at-append, write_at-fit, write_at-min}

module _ {A : Type 0} where
  -- behind the first i elements, the next one
  pub one_more : (at i : ℕ) (x d : A) (new old now : List A) → i < length new → get_or new i d ≡ x → now ≡ write_at at (take i new) old
      → set now (at + i) x ≡ write_at at (take (i + 1) new) old
  one_more at i x d new old now h e w =
      let n : length (take i new) ≡ i = length-take-le i new (omega arith) in
      rw (w, ← write_at-one, add-one, take-suc new i d h, e) (rw n at (write_at-append at (take i new) (x ∷ []) old))

  -- and the next two
  pub two_more : (at i : ℕ) (x y d : A) (new old now : List A) → i + 1 < length new → get_or new i d ≡ x → get_or new (i + 1) d ≡ y
      → now ≡ write_at at (take i new) old → set (set now (at + i) x) (at + i + 1) y ≡ write_at at (take (i + 2) new) old
  two_more at i x y d new old now h e f w =
      let place : at + i + 1 ≡ at + (i + 1) = omega arith in
      let last : i + 2 ≡ i + 1 + 1 = omega arith in
      rw (place, last) (one_more at (i + 1) y d new old (set now (at + i) x) h f (one_more at i x d new old now (omega arith) e w))

  -- as many as there is room for are all that a write leaves
  pub all_written : (at start count : ℕ) (new old : List A) → start ≡ min at (length old) → count ≡ min (length new) (length old - start)
      → write_at start (take count new) old ≡ write_at at new old
  all_written at start count new old s k =
      rw (take_same count (length old - start) new (omega arith), write_at-fit, s, write_at-min)

-- the same of bytes, with the place behind them
pub wrote_all : (at start count : ℕ) (new old now : List ℕ) (r : ℕ) → start ≡ min at (length old) → count ≡ min (length new) (length old - start)
    → now ≡ write_at start (take count new) old → r ≡ min (at + length new) most → length old < most → Wrote at new old now r
wrote_all at start count new old now r s k w p h =
    record { written = w ∙ all_written at start count new old s k; place = p; room = h }

-- a test that every byte has to pass, answered from the bytes that are left
module _ (test : ℕ → Bool) (all : List ℕ → Bool) (none : all [] ≡ true) (more : (b : ℕ) (l : List ℕ) → all (b ∷ l) ≡ test b && all l) where
  pub all_end : (l : List ℕ) (i : ℕ) → length l ≤ i → all (drop i l) ≡ true
  all_end l i h = rw (drop_of_length-le l h) none

  pub all_stop : (l : List ℕ) (i : ℕ) → i < length l → test (get_or l i 0) ≡ false → all (drop i l) ≡ false
  all_stop l i h e = rw (drop-cons l i 0 h, more, e)

  pub all_step : (l : List ℕ) (i : ℕ) → i < length l → test (get_or l i 0) ≡ true → all (drop i l) ≡ all (drop (i + 1) l)
  all_step l i h e = rw (drop-cons l i 0 h, more, e, add-one)
