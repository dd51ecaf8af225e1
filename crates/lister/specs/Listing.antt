-- The listing program: its lines, and what it answers to each input.
use Rattle.std.specs.Prelude.{Bool, true, false, Result, Ok, Err, cond, ◌&&◌, ◌||◌, List, [], ◌∷◌, ◌++◌, ℕ, zero, suc, ◌+◌, min, eqb, leb, ltb, length, take, drop, get_or}
use Rattle.octets.specs.Search.{index_of}
use Rattle.lines.specs.Lines.{decimal, header_line, line, dseg, mseg, refusal_line}
use Rattle.octets.specs.Lists.{over}
use Rattle.octets.specs.Spans.{bytes_of}
use Rattle.setup.specs.Setup.{is_active}
use Rattle.setup.specs.Values.{blank}
use Rattle.setup.specs.Rules.{limits}
use Rattle.setup.specs.Reading.{read}
use Rattle.setup.specs.declared.Segment.{Segment}
use Rattle.setup.specs.declared.Setup.{Setup}
use Rattle.setup.specs.Outcomes.{Outcome}
use Rattle.lister.specs.declared.Short.{Short}

-- ---- the lines of a set-up

-- the lines of partition p for the first n of a row of dsegs, with their paths in the text
unfoldable pub dseg_lines : List ℕ → List Segment → ℕ → ℕ → List ℕ
dseg_lines text ds p zero = []
dseg_lines text ds p (suc n) =
    let d : Segment = get_or ds n blank in
    dseg_lines text ds p n ++ line p dseg n (get_or d.permissions p 0) (bytes_of text d.path)

-- and for the first n of a row of msegs
unfoldable pub mseg_lines : List Segment → ℕ → ℕ → List ℕ
mseg_lines ms p zero = []
mseg_lines ms p (suc n) =
    let m : Segment = get_or ms n blank in
    mseg_lines ms p n ++ line p mseg n (get_or m.permissions p 0) (decimal m.size)

-- of partition p: "then dsegs, then msegs". There is room for sixteen of each
unfoldable pub lines_of : List ℕ → Setup → ℕ → List ℕ
lines_of text s p = cond (is_active s p) (dseg_lines text s.dsegs p (min s.dsegcount 16) ++ mseg_lines s.msegs p (min s.msegcount 16)) []

-- "by active partition": the lines of the first n
unfoldable pub partition_lines : List ℕ → Setup → ℕ → List ℕ
partition_lines text s zero = []
partition_lines text s (suc n) = partition_lines text s n ++ lines_of text s n

unfoldable pub setup_lines : List ℕ → Setup → List ℕ
setup_lines text s = header_line s.partitions s.dsegcount s.msegcount ++ partition_lines text s 8

unfoldable pub answer : List ℕ → Outcome → List ℕ
answer text o = cond (eqb o.number 0) (setup_lines text o.setup) (refusal_line o.number o.line)

-- ---- the input

-- "a line of A and P for the partitions"
unfoldable pub only_letters : List ℕ → Bool
only_letters [] = true
only_letters (b ∷ l) = (eqb b 65 || eqb b 80) && only_letters l

-- the flags of eight partitions; those behind the line are not active
unfoldable pub letter_a : List ℕ → ℕ → Bool
letter_a row p = eqb (get_or row p 0) 65

unfoldable pub flags : List ℕ → List Bool
flags row =
    letter_a row 0 ∷ letter_a row 1 ∷ letter_a row 2 ∷ letter_a row 3 ∷ letter_a row 4 ∷ letter_a row 5 ∷ letter_a row 6 ∷ letter_a row 7 ∷ []

-- the text behind the first line: 401 and 402, then the reading without an image
unfoldable pub answer_to : List ℕ → List ℕ → List ℕ
answer_to row text =
    let n : ℕ = limits (min (length row) 9) (flags row) (length text) in
    cond (eqb n 0) (answer text (read false [] text (min (length row) 9) (flags row))) (refusal_line n 0)

-- "Another byte in the first line, or no line feed behind it, is 401."
unfoldable pub listing : List ℕ → List ℕ
listing input =
    let n : ℕ = index_of 10 input in
    cond (ltb n (length input) && only_letters (take n input)) (answer_to (take n input) (drop (n + 1) input)) (refusal_line 401 0)

-- what comes out: a text over the start of the lent output; or nothing, where that is too short
pub record Listed : Type 0 where
  pub written : Result ℕ Short
  pub output : List ℕ

abbrev pub result_of : Result ℕ Short → List ℕ → Listed
result_of written output = record { written = written; output = output }

abbrev pub short : Result ℕ Short
short = Err (record {})

unfoldable pub shown : List ℕ → List ℕ → Listed
shown text output = cond (leb (length text) (length output)) (result_of (Ok (length text)) (over text output)) (result_of short output)

unfoldable pub listed : List ℕ → List ℕ → Listed
listed input output = shown (listing input) output
