-- docs/REPLAY.md at some points: words, numbers, and the size of BYTES.
use Rattle.std.specs.Prelude.{Some, None, [], ◌∷◌, ◌≡◌, refl}
use Rattle.octets.specs.Lists.{part}
use Rattle.octets.specs.Same.{same_bytes}
use Rattle.text.specs.Gaps.{gap_from, token_place}
use Rattle.text.specs.Tokens.{run, decimal_from, number_from, number_at}
use Rattle.replay_text.specs.Words.{onto, words, whole, number_of}
use Rattle.replay_text.specs.Hex.{all_hex, size_of}

-- "0"
number-zero : number_of (48 ∷ []) ≡ Some 0
unfolding gap_from token_place run decimal_from number_from number_at part whole number_of
number-zero = refl

-- "007": "zeros in front included"
number-zeros : number_of (48 ∷ 48 ∷ 55 ∷ []) ≡ Some 7
unfolding gap_from token_place run decimal_from number_from number_at part whole number_of
number-zeros = refl

-- "4294967295", the highest
number-most : number_of (52 ∷ 50 ∷ 57 ∷ 52 ∷ 57 ∷ 54 ∷ 55 ∷ 50 ∷ 57 ∷ 53 ∷ []) ≡ Some 4294967295
unfolding gap_from token_place run decimal_from number_from number_at part whole number_of
number-most = refl

-- "4294967296"
number-above : number_of (52 ∷ 50 ∷ 57 ∷ 52 ∷ 57 ∷ 54 ∷ 55 ∷ 50 ∷ 57 ∷ 54 ∷ []) ≡ None
unfolding gap_from token_place run decimal_from number_from number_at part whole number_of
number-above = refl

-- "": "at least one of the digits 0 to 9"
number-empty : number_of [] ≡ None
unfolding gap_from token_place run decimal_from number_from number_at part whole number_of
number-empty = refl

-- "1 "
number_behind : number_of (49 ∷ 32 ∷ []) ≡ None
unfolding gap_from token_place run decimal_from number_from number_at part whole number_of
number_behind = refl

-- "-": "or a single `-` where there is none"
size_none : size_of (45 ∷ []) ≡ Some 0
unfolding same_bytes all_hex size_of
size_none = refl

-- ""
size-empty : size_of [] ≡ None
unfolding same_bytes all_hex size_of
size-empty = refl

-- "0": "two hex digits to each"
size_odd : size_of (48 ∷ []) ≡ None
unfolding same_bytes all_hex size_of
size_odd = refl

-- "0a"
size-one : size_of (48 ∷ 97 ∷ []) ≡ Some 1
unfolding same_bytes all_hex size_of
size-one = refl

-- "0A"
size-upper : size_of (48 ∷ 65 ∷ []) ≡ None
unfolding same_bytes all_hex size_of
size-upper = refl

-- "a  b": "one space and nothing else", so that an empty word stands between two
words-three : words (97 ∷ 32 ∷ 32 ∷ 98 ∷ []) ≡ (97 ∷ []) ∷ [] ∷ (98 ∷ []) ∷ []
unfolding onto words
words-three = refl
