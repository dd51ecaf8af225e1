-- docs/REPLAY.md: the words behind a line's first one, by a pattern with a letter for each.
use Rattle.std.specs.Prelude.{true, false, Option, Some, None, Result, Ok, Err, cond, List, [], ◌∷◌, ℕ, ◌+◌, min, eqb, leb, ltb, length, drop, set, get_or, replicate}
use Rattle.octets.specs.Lists.{write_at}
use Rattle.octets.specs.Same.{same_bytes}
use Rattle.replay_text.specs.Words.{words, number_of}
use Rattle.replay_text.specs.Hex.{size_of, bytes_of}
use Rattle.replay_text.specs.declared.arguments.Arguments.{Arguments}
use Rattle.replay_text.specs.declared.arguments.Sofar.{Sofar}

-- no row is as long as this, so that a place that is not counted any further is as good as one behind the end
abbrev pub most : ℕ
most = 9223372036854775808

unfoldable pub none : Sofar
none = record { good = true; count = 0; numbers = replicate 6 0; held = 0 }

unfoldable pub refused : Sofar → Sofar
refused a = record { good = false; count = a.count; numbers = a.numbers; held = a.held }

-- one number more; there is room for six, and no line has more
unfoldable pub with_number : ℕ → Sofar → Sofar
with_number v a = cond (leb 6 a.count) a (record { good = a.good; count = a.count + 1; numbers = set a.numbers a.count v; held = a.held })

unfoldable pub with_held : ℕ → Sofar → Sofar
with_held n a = record { good = a.good; count = a.count; numbers = a.numbers; held = n }

-- l "LENGTH says how many bytes long the buffer is that the call is lent: 4,096 or fewer", a "N bytes are lent, 65,536 at most", n any number
unfoldable pub limit : ℕ → ℕ
limit kind = cond (eqb kind 108) 4096 (cond (eqb kind 97) 65536 4294967295)

unfoldable pub of_number : ℕ → Option ℕ → Sofar → Sofar
of_number top (Some v) a = cond (ltb top v) (refused a) (with_number v a)
of_number top None a = refused a

-- one of two words: 1 for the first, 0 for the second
unfoldable pub choice : List ℕ → List ℕ → List ℕ → Sofar → Sofar
choice first second w a = cond (same_bytes w first) (with_number 1 a) (cond (same_bytes w second) (with_number 0 a) (refused a))

-- "BYTE is one byte, two digits"
unfoldable pub of_byte : Option ℕ → ℕ → Sofar → Sofar
of_byte (Some n) b a = cond (eqb n 1) (with_number b a) (refused a)
of_byte None b a = refused a

-- what was read, and the row that bytes are laid into
pub record Read : Type 0 where
  pub sofar : Sofar
  pub given : List ℕ

unfoldable pub told : Sofar → List ℕ → Read
told a given = record { sofar = a; given = given }

-- "The BYTES of a call are all that it is lent, and no more than 4,096 of them": laid behind those that are there, their number among the numbers
unfoldable pub laid : Option ℕ → List ℕ → Sofar → List ℕ → Read
laid (Some n) w a given =
    cond (ltb 4096 n) (told (refused a) given)
    (told (with_held (min (a.held + n) most) (with_number n a)) (write_at a.held (bytes_of w) given))
laid None w a given = told (refused a) given

-- one word of a kind: b bytes, y one byte, s `set` or `clear`, o `yes` or `no`, and else a number
unfoldable pub argument : ℕ → List ℕ → Read → Read
argument kind w r =
    cond (eqb kind 98) (laid (size_of w) w r.sofar r.given)
    (told
    (cond (eqb kind 121) (of_byte (size_of w) (get_or (bytes_of w) 0 0) r.sofar)
    (cond (eqb kind 115) (choice (115 ∷ 101 ∷ 116 ∷ []) (99 ∷ 108 ∷ 101 ∷ 97 ∷ 114 ∷ []) w r.sofar)
    (cond (eqb kind 111) (choice (121 ∷ 101 ∷ 115 ∷ []) (110 ∷ 111 ∷ []) w r.sofar)
    (of_number (limit kind) (number_of w) r.sofar))))
    r.given)

-- word by word; one that is missing is read as an empty one, which no kind allows, and none may be left
unfoldable pub read_words : List ℕ → List (List ℕ) → Read → Read
read_words [] [] r = r
read_words [] (w ∷ ws) r = told (refused r.sofar) r.given
read_words (k ∷ ks) [] r = read_words ks [] (argument k [] r)
read_words (k ∷ ks) (w ∷ ws) r = read_words ks ws (argument k w r)

-- the words from a place on; behind the line's end there is none
unfoldable pub words_from : List ℕ → ℕ → List (List ℕ)
words_from line at = cond (leb at (length line)) (words (drop at line)) []

unfoldable pub arguments_of : List ℕ → List ℕ → ℕ → List ℕ → Read
arguments_of pattern line at given = read_words pattern (words_from line at) (told none given)

-- what was read, whether or not a word was refused
unfoldable pub gathered : Sofar → Arguments
gathered a = record { count = a.count; numbers = a.numbers; held = a.held }

-- what a line gives: an error where a word was refused
unfoldable pub kept : Sofar → Result Arguments Arguments
kept a = cond a.good (Ok (gathered a)) (Err (gathered a))
