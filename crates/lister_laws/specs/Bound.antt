-- No listing is longer than 22,998 bytes: a first line, and for each of eight partitions sixteen lines of a dseg and sixteen of an mseg. So
-- an output of that length is always long enough.
use Rattle.std.specs.Prelude.{Ok, false, ◌&&◌, ◌||◌, List, [], ◌≡◌, ℕ, zero, suc, ◌+◌, ◌*◌, ◌/◌, ◌≤◌, min, eqb, ltb, length, take, drop, get_or}
use Rattle.std.proofs.Common.{arith, le-leb, length-append}
use Rattle.octets.specs.Search.{index_of}
use Rattle.text.specs.Steps.{split}
use Rattle.octets.specs.Lists.{over, part}
use Rattle.octets.specs.PartLaws.{length_part}
use Rattle.lines.specs.Lines.{digits, decimal, header_line, permission, dseg, mseg, fields, line, refusal_line}
use Rattle.setup.specs.declared.Segment.{Segment}
use Rattle.setup.specs.declared.Setup.{Setup}
use Rattle.setup.specs.Outcomes.{Outcome}
use Rattle.octets.specs.Spans.{bytes_of}
use Rattle.setup.specs.Setup.{is_active}
use Rattle.setup.specs.Values.{blank}
use Rattle.setup.specs.Rules.{limits}
use Rattle.setup.specs.Reading.{read}
use Rattle.lister.specs.Listing.{dseg_lines, mseg_lines, lines_of, partition_lines, setup_lines, answer, only_letters, flags, answer_to, listing, result_of, shown, listed}
use Rattle.lister_laws.specs.Paths.{Short, short-at, read_short_lem}

-- ---- lines

digits-short : (n v : ℕ) → length (digits n v) ≤ n
unfolding digits
digits-short zero v = omega arith
digits-short (suc n) v =
    let before : length (digits n (v / 10)) ≤ n = digits-short n (v / 10) in
    split (ltb v 10) (λ e. rw e (omega arith)) (λ e. rw (e, length-append) (omega arith))

decimal-short : (v : ℕ) → length (decimal v) ≤ 20
unfolding decimal
decimal-short v = digits-short 20 v

permission-short : (n : ℕ) → length (permission n) ≤ 4
unfolding permission
permission-short n = split (eqb n 2) (λ e. rw e (omega arith)) (λ e. rw e (omega arith))

fields-short : (p : ℕ) (letter : List ℕ) (i granted : ℕ) → length letter ≤ 3 → length (fields p letter i granted) ≤ 47
unfolding fields
fields-short p letter i granted h =
    let a : length (decimal p) ≤ 20 = decimal-short p in
    let b : length (decimal i) ≤ 20 = decimal-short i in
    let c : length (permission granted) ≤ 4 = permission-short granted in
    simp length-append (omega arith)

line-short : (m p : ℕ) (letter : List ℕ) (i granted : ℕ) (what : List ℕ) → length letter ≤ 3 → length what ≤ m
    → length (line p letter i granted what) ≤ 48 + m
unfolding line
line-short m p letter i granted what h k =
    let a : length (fields p letter i granted) ≤ 47 = fields-short p letter i granted h in
    split (eqb granted 1 || eqb granted 2) (λ e. rw e (simp length-append (omega arith))) (λ e. rw e (omega arith))

-- ---- the lines of a set-up

dsegs_short : (text : List ℕ) (ds : List Segment) (p n : ℕ) → Short ds → length (dseg_lines text ds p n) ≤ n * 111
unfolding dseg_lines bytes_of
dsegs_short text ds p zero s = omega arith
dsegs_short text ds p (suc n) s =
    let d : Segment = get_or ds n blank in
    let fit : d.path.length ≤ 63 = short-at n s in
    let bytes : length (part d.path.place d.path.length text) ≤ 63 = rw length_part (omega arith) in
    let more : length (line p dseg n (get_or d.permissions p 0) (part d.path.place d.path.length text)) ≤ 48 + 63
    = line-short 63 p dseg n _ _ (omega arith) bytes in
    let before : length (dseg_lines text ds p n) ≤ n * 111 = dsegs_short text ds p n s in
    rw length-append (omega arith)

msegs_short : (ms : List Segment) (p n : ℕ) → length (mseg_lines ms p n) ≤ n * 68
unfolding mseg_lines
msegs_short ms p zero = omega arith
msegs_short ms p (suc n) =
    let m : Segment = get_or ms n blank in
    let more : length (line p mseg n (get_or m.permissions p 0) (decimal m.size)) ≤ 48 + 20
    = line-short 20 p mseg n _ _ (omega arith) (decimal-short m.size) in
    let before : length (mseg_lines ms p n) ≤ n * 68 = msegs_short ms p n in
    rw length-append (omega arith)

lines-short : (text : List ℕ) (s : Setup) (p : ℕ) → Short s.dsegs → length (lines_of text s p) ≤ 2864
unfolding lines_of
lines-short text s p h =
    let d : length (dseg_lines text s.dsegs p (min s.dsegcount 16)) ≤ min s.dsegcount 16 * 111 = dsegs_short text s.dsegs p (min s.dsegcount 16) h in
    let m : length (mseg_lines s.msegs p (min s.msegcount 16)) ≤ min s.msegcount 16 * 68 = msegs_short s.msegs p (min s.msegcount 16) in
    split (is_active s p) (λ e. rw (e, length-append) (omega arith)) (λ e. rw e (omega arith))

partitions-short : (text : List ℕ) (s : Setup) (n : ℕ) → Short s.dsegs → length (partition_lines text s n) ≤ n * 2864
unfolding partition_lines
partitions-short text s zero h = omega arith
partitions-short text s (suc n) h =
    let more : length (lines_of text s n) ≤ 2864 = lines-short text s n h in
    let before : length (partition_lines text s n) ≤ n * 2864 = partitions-short text s n h in
    rw length-append (omega arith)

header-short : (p d m : ℕ) → length (header_line p d m) ≤ 86
unfolding header_line
header-short p d m =
    let a : length (decimal p) ≤ 20 = decimal-short p in
    let b : length (decimal d) ≤ 20 = decimal-short d in
    let c : length (decimal m) ≤ 20 = decimal-short m in
    simp length-append (omega arith)

setup_short : (text : List ℕ) (s : Setup) → Short s.dsegs → length (setup_lines text s) ≤ 22998
unfolding setup_lines
setup_short text s h =
    let a : length (header_line s.partitions s.dsegcount s.msegcount) ≤ 86 = header-short s.partitions s.dsegcount s.msegcount in
    let b : length (partition_lines text s 8) ≤ 22912 = partitions-short text s 8 h in
    rw length-append (omega arith)

refusal-short : (n l : ℕ) → length (refusal_line n l) ≤ 22998
unfolding refusal_line
refusal-short n l =
    let a : length (decimal n) ≤ 20 = decimal-short n in
    let b : length (decimal l) ≤ 20 = decimal-short l in
    simp length-append (omega arith)

-- ---- the listing

answer-short : (text : List ℕ) (o : Outcome) → Short o.setup.dsegs → length (answer text o) ≤ 22998
unfolding answer
answer-short text o h =
    split (eqb o.number 0) (λ e. rw e (setup_short text o.setup h)) (λ e. rw e (refusal-short o.number o.line))

text-short : (row text : List ℕ) → length (answer_to row text) ≤ 22998
unfolding answer_to
text-short row text =
    let n = min (length row) 9 in
    let number = limits n (flags row) (length text) in
    split (eqb number 0)
    (λ e. rw e (answer-short text (read false [] text n (flags row)) (read_short_lem false [] text n (flags row))))
    (λ e. rw e (refusal-short number 0))

pub listing-short : (input : List ℕ) → length (listing input) ≤ 22998
unfolding listing
listing-short input =
    let n = index_of 10 input in
    split (ltb n (length input) && only_letters (take n input))
    (λ e. rw e (text-short (take n input) (drop (n + 1) input))) (λ e. rw e (refusal-short 401 0))

-- an output of 22,998 bytes is never too short
pub always-fits : (input output : List ℕ) → 22998 ≤ length output
    → listed input output ≡ result_of (Ok (length (listing input))) (over (listing input) output)
unfolding listed shown
always-fits input output h =
    let short : length (listing input) ≤ 22998 = listing-short input in
    let fits : length (listing input) ≤ length output = omega arith in
    rw (le-leb (length (listing input)) (length output) fits)
