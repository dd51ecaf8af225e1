-- Laws of gaps and lines: a token's place is at or behind the place looked from, inside the text, and no gap goes on there.
use Rattle.std.specs.Prelude.{Bool, true, false, List, [], ◌∷◌, ◌≡◌, refl, ℕ, zero, suc, ◌+◌, ◌≤◌, ◌<◌, length, get_or, take, drop}
use Rattle.std.proofs.Common.{sym, add-zero, zero-add, suc-add, le_of_suc-le-suc, not-suc-le-zero, arith, length-drop, length-take, get_or-drop}
use Rattle.std.proofs.Math.Decide.{dec_le}
use Rattle.std.proofs.Math.ListN.{get_or-eq_default}
use Rattle.std.proofs.lemmas.Bool.{false≢true}
use Rattle.text.specs.Bytes.{byte_at}
use Rattle.text.specs.Gaps.{gap_from, token_place, line_of}
use Rattle.text.specs.Steps.{split, gap_on, comment_on, gap_nil, gap_cons, gap_end, gap_stop, feeds_le}

-- ---- the byte at a place

pub get_or_any : (l : List ℕ) (i d e : ℕ) → i < length l → get_or l i d ≡ get_or l i e
get_or_any [] i d e h = absurd (not-suc-le-zero h)
get_or_any (b ∷ l) zero d e h = refl
get_or_any (b ∷ l) (suc i) d e h = get_or_any l i d e (le_of_suc-le-suc h)

pub byte_in : (text : List ℕ) (at : ℕ) → at < length text → byte_at text at ≡ get_or text at 0
byte_in text at h = get_or_any text at 256 0 h

pub byte_out : (text : List ℕ) (at : ℕ) → length text ≤ at → byte_at text at ≡ 256
byte_out text at h = get_or-eq_default text 256 h

-- where a byte is read, the text goes on
pub byte_inside : (text : List ℕ) (at b : ℕ) → b < 256 → byte_at text at ≡ b → at < length text
byte_inside text at b s e = go (dec_le (length text) at)
  where
    go : Dec (length text ≤ at) → at < length text
    go (yes h) = absurd (omega (arith, byte_out text at h))
    go (no h) = omega arith

-- ---- how far a gap goes, whatever its place

pub gap_shift : (comment : Bool) (l : List ℕ) (i : ℕ) → gap_from comment l i ≡ i + gap_from comment l 0
gap_shift comment [] i = rw (gap_nil comment i, gap_nil comment 0, add-zero)
gap_shift comment (b ∷ l) i =
    split (gap_on comment b)
    (λ e. rw (gap_cons comment b l i, gap_cons comment b l 0, e, gap_shift (comment_on comment b) l (suc i), gap_shift (comment_on comment b) l 1)
    (omega arith))
    (λ e. rw (gap_cons comment b l i, gap_cons comment b l 0, e, add-zero))

pub gap_fits : (comment : Bool) (l : List ℕ) → gap_from comment l 0 ≤ length l
gap_fits comment [] = rw (gap_nil comment 0) (omega arith)
gap_fits comment (b ∷ l) =
    split (gap_on comment b)
    (λ e. rw (gap_cons comment b l 0, e, gap_shift (comment_on comment b) l 1) (omega (arith, gap_fits (comment_on comment b) l)))
    (λ e. rw (gap_cons comment b l 0, e) (omega arith))

never_on : (comment : Bool) (b : ℕ) → gap_on comment b ≡ false → gap_on false b ≡ false
never_on true b e = absurd (false≢true (sym e))
never_on false b e = e

pub gap_stops : (comment : Bool) (l : List ℕ) → gap_on false (byte_at l (gap_from comment l 0)) ≡ false
gap_stops comment [] = refl
gap_stops comment (b ∷ l) =
    split (gap_on comment b)
    (λ e. rw (gap_cons comment b l 0, e, gap_shift (comment_on comment b) l 1, suc-add, zero-add) (gap_stops (comment_on comment b) l))
    (λ e. rw (gap_cons comment b l 0, e) (never_on comment b e))

-- ---- a token's place

place_def : (text : List ℕ) (at : ℕ) → token_place text at ≡ at + gap_from false (drop at text) 0
unfolding token_place
place_def text at = gap_shift false (drop at text) at

pub place_ge : (text : List ℕ) (at : ℕ) → at ≤ token_place text at
place_ge text at = rw place_def (omega arith)

-- inside the text, if it was looked for inside the text
pub place-le : (text : List ℕ) (at : ℕ) → at ≤ length text → token_place text at ≤ length text
place-le text at h = rw place_def (omega (arith, gap_fits false (drop at text), length-drop at text))

-- behind the end nothing is looked for
pub place_out : (text : List ℕ) (at : ℕ) → length text ≤ at → token_place text at ≡ at
unfolding token_place
place_out text at h = gap_end false text at h

-- no separator stands there and no comment begins there
pub place-stops : (text : List ℕ) (at : ℕ) → gap_on false (byte_at text (token_place text at)) ≡ false
place-stops text at =
    let e : byte_at (drop at text) (gap_from false (drop at text) 0) ≡ byte_at text (at + gap_from false (drop at text) 0)
    = get_or-drop at text (gap_from false (drop at text) 0) 256 in
    rw (place_def, ← e) (gap_stops false (drop at text))

-- a place where no gap goes on is a token's place
pub place_here : (text : List ℕ) (at : ℕ) → gap_on false (byte_at text at) ≡ false → token_place text at ≡ at
unfolding token_place
place_here text at e = go (dec_le (length text) at)
  where
    go : Dec (length text ≤ at) → gap_from false (drop at text) at ≡ at
    go (yes h) = gap_end false text at h
    go (no h) = let k : at < length text = omega arith in gap_stop false text at k (rw (byte_in text at k) at e)

pub place_twice : (text : List ℕ) (at : ℕ) → token_place text (token_place text at) ≡ token_place text at
place_twice text at = place_here text (token_place text at) (place-stops text at)

-- ---- lines

-- a line's number is at least 1 and at most one more than the text's length
pub line-le : (text : List ℕ) (at : ℕ) → line_of text at ≤ 1 + length text
unfolding line_of
line-le text at = omega (arith, feeds_le (take at text), length-take at text)
