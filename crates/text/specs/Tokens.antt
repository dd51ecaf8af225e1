-- The set-up text: tokens. Each stands behind a gap, which may be empty.
use Rattle.std.specs.Prelude.{Bool, cond, ◌&&◌, ◌||◌, List, [], ◌∷◌, ℕ, zero, suc, ◌+◌, ◌-◌, ◌*◌, eqb, leb, ltb, length, drop, Option, Some, None}
use Rattle.octets.specs.Lists.{part}
use Rattle.octets.specs.Same.{same_bytes}
use Rattle.octets.specs.Spans.{span}
use Rattle.octets.specs.declared.span.Span.{Span}
use Rattle.text.specs.Bytes.{byte_at, is_digit, in_path, in_bare_path}
use Rattle.text.specs.Gaps.{token_place}

-- how many bytes at the start of l pass the test
unfoldable pub run : (ℕ → Bool) → List ℕ → ℕ
run test [] = zero
run test (b ∷ l) = cond (test b) (suc (run test l)) zero

-- a bracket, a comma, .. or a reserved word: these bytes, one behind the other
unfoldable pub word_at : List ℕ → List ℕ → ℕ → Option ℕ
word_at word text at =
    let p : ℕ = token_place text at in
    cond (same_bytes (part p (length word) text) word) (Some (p + length word)) None

-- the number that a row of digits spells, "leading zeros allowed"
unfoldable pub decimal_from : ℕ → List ℕ → ℕ
decimal_from value [] = value
decimal_from value (b ∷ l) = decimal_from (value * 10 + (b - 48)) l

-- "at most 4,294,967,295 (above: 404)"; the digits that stand at place p
unfoldable pub number_from : List ℕ → ℕ → Option (ℕ × ℕ)
number_from text p =
    let n : ℕ = run is_digit (drop p text) in
    let value : ℕ = decimal_from 0 (part p n text) in
    cond (eqb n 0 || ltb 4294967295 value) None (Some (value, p + n))

unfoldable pub number_at : List ℕ → ℕ → Option (ℕ × ℕ)
number_at text at = number_from text (token_place text at)

-- what a unit directly behind a number multiplies it by, and how many bytes it takes: "KB, MB or GB (1024, 1024² and 1024³)"
unfoldable pub sized : ℕ → List ℕ → ℕ → ℕ × ℕ
sized value text p =
    let unit : List ℕ = part p 2 text in
    cond (same_bytes unit (75 ∷ 66 ∷ [])) (value * 1024, p + 2)
    (cond (same_bytes unit (77 ∷ 66 ∷ [])) (value * 1048576, p + 2)
    (cond (same_bytes unit (71 ∷ 66 ∷ [])) (value * 1073741824, p + 2)
    (value, p)))

-- "A size may carry KB, MB or GB directly behind it"
unfoldable pub with_unit : List ℕ → Option (ℕ × ℕ) → Option (ℕ × ℕ)
with_unit text (Some (value, next)) = Some (sized value text next)
with_unit text None = None

unfoldable pub size_at : List ℕ → ℕ → Option (ℕ × ℕ)
size_at text at = with_unit text (number_at text at)

-- "A path starts with '/', has 2 to 63 bytes": n bytes from place p on, with the next token at `next`
unfoldable pub path_of : List ℕ → ℕ → ℕ → ℕ → Option (Span × ℕ)
path_of text p n next = cond (eqb (byte_at text p) 47 && (leb 2 n && leb n 63)) (Some (span p n, next)) None

-- a path in quote marks, whose first byte stands at place p; unclosed where another byte than a quote mark ends it
unfoldable pub quoted_path : List ℕ → ℕ → Option (Span × ℕ)
quoted_path text p =
    let n : ℕ = run in_path (drop p text) in
    cond (eqb (byte_at text (p + n)) 34) (path_of text p n (p + n + 1)) None

unfoldable pub bare_path : List ℕ → ℕ → Option (Span × ℕ)
bare_path text p =
    let n : ℕ = run in_bare_path (drop p text) in
    path_of text p n (p + n)

unfoldable pub path_at : List ℕ → ℕ → Option (Span × ℕ)
path_at text at =
    let p : ℕ = token_place text at in
    cond (eqb (byte_at text p) 34) (quoted_path text (p + 1)) (bare_path text p)
