-- Laws of reading a line's words by a pattern: what the loop goes by.
use Rattle.std.specs.Prelude.{List, [], ◌∷◌, ◌≡◌, refl, ℕ, suc, ◌+◌, ◌-◌, ◌≤◌, ◌<◌, min, eqb, leb, length, drop, get_or}
use Rattle.std.proofs.Common.{add-one, arith, le-leb, leb-true, leb-false, lit≤, length-drop, drop_of_length-le, drop-cons, drop-drop}
use Rattle.std.proofs.Math.Decide.{dec_le}
use Rattle.std.proofs.lemmas.Bool.{lt-leb}
use Rattle.octets.specs.Search.{index_of}
use Rattle.octets.specs.Lists.{part, over, write_at}
use Rattle.octets.specs.PartLaws.{part_def, part_out}
use Rattle.text.specs.Steps.{split}
use Rattle.replay_text.specs.Words.{words}
use Rattle.replay_text.specs.WordLaws.{words-cut}
use Rattle.replay_text.specs.Arguments.{Read, told, refused, most, limit, argument, read_words, words_from}
use Rattle.replay_text.specs.declared.arguments.Sofar.{Sofar}

pub limit-small : (kind : ℕ) → limit kind ≤ 4294967295
unfolding limit
limit-small kind =
    split (eqb kind 108)
    (λ e. rw e (lit≤ tt))
    (λ e. split (eqb kind 97) (λ f. rw (e, f) (lit≤ tt)) (λ f. rw (e, f) (lit≤ tt)))

-- a row of one byte takes the first of a list
pub first_of : (l : List ℕ) → get_or (write_at 0 l (0 ∷ [])) 0 0 ≡ get_or l 0 0
unfolding write_at over
first_of [] = refl
first_of (b ∷ l) = refl

-- ---- words from a place on

pub from-none : (line : List ℕ) (place : ℕ) → length line < place → words_from line place ≡ []
unfolding words_from
from-none line place h = rw (lt-leb place (length line) h)

pub from_some : (line : List ℕ) (place : ℕ) → place ≤ length line → words_from line place ≡ words (drop place line)
unfolding words_from
from_some line place h = rw (le-leb place (length line) h)

-- a place that is not counted any further
from_capped : (line : List ℕ) (place m : ℕ) → length line < m → words_from line (min place m) ≡ words_from line place
from_capped line place m h = go (dec_le place m)
  where
    go : Dec (place ≤ m) → words_from line (min place m) ≡ words_from line place
    go (yes k) =
        let e : min place m ≡ place = omega arith in
        rw e
    go (no k) = rw (from-none line (min place m) (omega arith), from-none line place (omega arith))

-- whether there is more behind a word's end, asked of the rest and of the line
same_end : (line : List ℕ) (place n : ℕ) → place ≤ length line → leb (suc n) (length (drop place line)) ≡ leb (place + (n + 1)) (length line)
same_end line place n h =
    let d : length (drop place line) ≡ length line - place = length-drop place line in
    split (leb (suc n) (length (drop place line)))
    (λ e. let k = leb-true (suc n) (length (drop place line)) e in rw (e, le-leb (place + (n + 1)) (length line) (omega arith)))
    (λ e. let k = leb-false (suc n) (length (drop place line)) e in rw (e, lt-leb (place + (n + 1)) (length line) (omega arith)))

from_cut : (line : List ℕ) (place n : ℕ) → place ≤ length line → n ≡ index_of 32 (drop place line)
    → words_from line place ≡ part place n line ∷ words_from line (place + (n + 1))
unfolding words_from
from_cut line place n h e =
    rw (le-leb place (length line) h, words-cut (drop place line), ← e, same_end line place n h, drop-drop, ← add-one n, ← part_def)

-- ---- the loop

-- one letter of the pattern, and one word
pub read_step : (pattern : List ℕ) (i : ℕ) (line : List ℕ) (place n : ℕ) (w : List ℕ) (next : ℕ) (r : Read) → i < length pattern
    → n ≡ index_of 32 (drop place line) → w ≡ part place n line → next ≡ min (place + (n + 1)) most → length line < most
    → read_words (drop i pattern) (words_from line place) r ≡ read_words (drop (i + 1) pattern) (words_from line next) (argument (get_or pattern i 0) w r)
unfolding read_words
read_step pattern i line place n w next r h e f g room = go (dec_le place (length line))
  where
    go : Dec (place ≤ length line)
        → read_words (drop i pattern) (words_from line place) r ≡ read_words (drop (i + 1) pattern) (words_from line next) (argument (get_or pattern i 0) w r)
    go (yes k) = rw (drop-cons pattern i 0 h, add-one, f, g, from_capped line (place + (n + 1)) most room, from_cut line place n k e)
    go (no k) =
        rw (
          drop-cons pattern i 0 h,
          add-one,
          f,
          part_out place n line (omega arith),
          from-none line place (omega arith),
          from-none line next (omega arith),
        )

-- the pattern is at its end, and so is the line
pub read_end_lem : (pattern : List ℕ) (i : ℕ) (line : List ℕ) (place : ℕ) (r : Read) → length pattern ≤ i → length line < place
    → read_words (drop i pattern) (words_from line place) r ≡ r
unfolding read_words
read_end_lem pattern i line place r h k = rw (drop_of_length-le pattern h, from-none line place k)

-- the pattern is at its end, and a word is left
pub read_left : (pattern : List ℕ) (i : ℕ) (line : List ℕ) (place : ℕ) (a : Sofar) (given : List ℕ) → length pattern ≤ i → place ≤ length line
    → read_words (drop i pattern) (words_from line place) (told a given) ≡ told (refused a) given
unfolding read_words told
read_left pattern i line place a given h k = rw (drop_of_length-le pattern h, from_some line place k, words-cut (drop place line))
