-- What the functions of the listing are proved by.
use Rattle.std.specs.Prelude.{Bool, true, false, Result, Ok, Err, ◌||◌, List, [], ◌∷◌, ◌++◌, ◌≡◌, refl, ℕ, ◌+◌, ◌≤◌, ◌<◌, min, eqb, length, drop, get_or}
use Rattle.std.proofs.Common.{add-one, arith, length-drop, take_all, le-leb, lt-ltb, le-ltb, eq-eqb, ne_eqb}
use Rattle.std.specs.List.{list_all}
use Rattle.std.proofs.lemmas.Bool.{lt-leb}
use Rattle.octets.specs.Search.{index_of}
use Rattle.lines.specs.Lines.{decimal, line, dseg, mseg, refusal_line}
use Rattle.lines.specs.Wrote.{Put, most}
use Rattle.lines.specs.declared.output.Output.{Output}
use Rattle.octets.specs.Lists.{part, over}
use Rattle.octets.specs.WriteLaws.{write_at-zero}
use Rattle.octets.specs.Spans.{bytes_of}
use Rattle.setup.specs.Setup.{is_active}
use Rattle.setup.specs.Values.{blank}
use Rattle.setup.specs.Rules.{limits}
use Rattle.setup.specs.Reading.{read}
use Rattle.setup.specs.declared.Segment.{Segment}
use Rattle.setup.specs.declared.Setup.{Setup}
use Rattle.checks.specs.Refusals.{number_of}
use Rattle.checks.specs.declared.refusal.Refusal.{Refusal}
use Rattle.setup.specs.declared.Refused.{Refused}
use Rattle.checks.specs.Numbers.{some_number}
use Rattle.setup.specs.Views.{outcome_of}
use Rattle.lister.specs.declared.lines_of.Kind.{Kind}
use Rattle.lister.specs.declared.lines_of.Kind.TheVariants.{Dsegs, Msegs}
use Rattle.lister.specs.Kinds.{letter, what, row_lines}
use Rattle.lister.specs.Outcomes.{said, answer_behind}
use Rattle.lister.specs.Listing.{Listed, result_of, shown, dseg_lines, mseg_lines, lines_of, partition_lines, setup_lines, answer, only_letters, flags, answer_to, listing}

-- ---- one line more

pub dseg-more : (text : List ℕ) (ds : List Segment) (p i : ℕ) (d : Segment) → d ≡ get_or ds i blank
    → dseg_lines text ds p i ++ line p dseg i (get_or d.permissions p 0) (bytes_of text d.path) ≡ dseg_lines text ds p (i + 1)
unfolding dseg_lines
dseg-more text ds p i d e = rw (e, add-one)

pub mseg-more : (ms : List Segment) (p i : ℕ) (m : Segment) → m ≡ get_or ms i blank
    → mseg_lines ms p i ++ line p mseg i (get_or m.permissions p 0) (decimal m.size) ≡ mseg_lines ms p (i + 1)
unfolding mseg_lines
mseg-more ms p i m e = rw (e, add-one)

pub row-none : (kind : Kind) (segments : List Segment) (p : ℕ) → [] ≡ row_lines kind segments p 0
unfolding dseg_lines mseg_lines
row-none (Dsegs text) segments p = refl
row-none Msegs segments p = refl

pub row-more : (kind : Kind) (segments : List Segment) (p i : ℕ) (s : Segment) (l w : List ℕ) → s ≡ get_or segments i blank
    → l ≡ letter kind → w ≡ what kind s
    → row_lines kind segments p i ++ line p l i (get_or s.permissions p 0) w ≡ row_lines kind segments p (i + 1)
row-more (Dsegs text) segments p i s l w e f g = rw (f, g) (dseg-more text.now segments p i s e)
row-more Msegs segments p i s l w e f g = rw (f, g) (mseg-more segments p i s e)

pub partition_more : (text : List ℕ) (s : Setup) (p : ℕ) → partition_lines text s p ++ lines_of text s p ≡ partition_lines text s (p + 1)
unfolding partition_lines
partition_more text s p = rw add-one

pub lines_none : (text : List ℕ) (s : Setup) (p : ℕ) → is_active s p ≡ false → [] ≡ lines_of text s p
unfolding lines_of
lines_none text s p e = rw e

pub lines-some : (text : List ℕ) (s : Setup) (p : ℕ) → is_active s p ≡ true
    → dseg_lines text s.dsegs p (min s.dsegcount 16) ++ mseg_lines s.msegs p (min s.msegcount 16) ≡ lines_of text s p
unfolding lines_of
lines-some text s p e = rw e

-- ---- a text that was counted, and then written where it fits

pub counted : {l : List ℕ} {o n : Output} → Put l o n → o.at ≡ min 0 most → n.at ≡ min (length l) most
unfolding most
counted {l} {o} {n} f e =
    let place : n.at ≡ min (o.at + length l) 9223372036854775808 = f.wrote.place in
    omega (arith, e)

pub laid : {l : List ℕ} {o n : Output} → Put l o n → o.at ≡ min 0 most → n.row.now ≡ over l o.row.now
unfolding most
laid {l} {o} {n} f e =
    let start : o.at ≡ 0 = omega (arith, e) in
    rw (f.wrote.written, start, write_at-zero)

pub fits : (l o : List ℕ) {w : List ℕ} {n : ℕ} → n ≡ min (length l) most → w ≡ over l o → length o < most → n ≤ length o → result_of (Ok n) w ≡ shown l o
unfolding shown
fits l o {w} {n} e f small h =
    let same : n ≡ length l = omega arith in
    let room : length l ≤ length o = omega arith in
    rw (le-leb (length l) (length o) room, same, f)

pub short : (l o : List ℕ) {n : ℕ} → n ≡ min (length l) most → length o < n → result_of (Err (record {})) o ≡ shown l o
unfolding shown
short l o {n} e h =
    let over : length o < length l = omega arith in
    rw (lt-leb (length l) (length o) over)

-- the same text by another name
pub shown_as : {x : Listed} {l m : List ℕ} (o : List ℕ) → l ≡ m → x ≡ shown l o → x ≡ shown m o
shown_as o e w = rw e at w

-- ---- the letters of the first line

abbrev pub is_letter : ℕ → Bool
is_letter b = eqb b 65 || eqb b 80

pub letters_all : (row : List ℕ) → list_all is_letter row ≡ only_letters row
unfolding only_letters
letters_all [] = refl
letters_all (b ∷ row) = rw (letters_all row)

-- ---- the text behind the first line

pub no-letters : (letters text : List ℕ) (good : Bool) → good ≡ list_all is_letter letters → good ≡ false → refusal_line 401 0 ≡ answer_behind letters text
no-letters letters text good g b = rw (← letters_all letters, ← g, b)

-- what a reading says is the answer to what it comes to
said_of : (text : List ℕ) (x : Result Setup Refused) → said text x ≡ answer text (outcome_of x)
unfolding answer
said_of text (Ok s) = refl
said_of text (Err r) = rw (some_number r.refusal)

module _ (letters text : List ℕ) (good : Bool) (g : good ≡ list_all is_letter letters) (t : good ≡ true) (count : ℕ) (active : List Bool) (n : ℕ)
    (c : count ≡ min (length letters) 9) (a : active ≡ flags letters) (l : n ≡ limits count active (length text)) where
  pub outside : (r : Refusal) → number_of r ≡ n → refusal_line (number_of r) 0 ≡ answer_behind letters text
  unfolding answer_to
  outside r e = rw (← letters_all letters, ← g, t, ← c, ← a, ← l, ← e, some_number r)

  pub read_said : n ≡ 0 → (x : Result Setup Refused) → outcome_of x ≡ read false [] text count active → said text x ≡ answer_behind letters text
  unfolding answer_to
  read_said z x r = rw (← letters_all letters, ← g, t, ← c, ← a, ← l, eq-eqb n 0 z, ← r) (said_of text x)

-- ---- the first line, as it is found

pub no_feed : (input : List ℕ) (n : ℕ) → n ≡ index_of 10 input → n ≡ length input → refusal_line 401 0 ≡ listing input
unfolding listing
no_feed input n e h =
    let past : length input ≤ n = omega arith in
    rw (← e, le-ltb n (length input) past)

pub fed : (input letters text : List ℕ) (n : ℕ) → n ≡ index_of 10 input → n ≤ length input → (n ≡ length input → ⊥)
    → letters ≡ part 0 n input → text ≡ part (n + 1) (length input) input → answer_behind letters text ≡ listing input
unfolding listing part
fed input letters text n e within feed l t =
    let inside : n < length input = omega arith in
    let all : length (drop (n + 1) input) ≤ length input = rw length-drop (omega arith) in
    rw (← e, lt-ltb n (length input) inside, l, t, take_all (length input) (drop (n + 1) input) all)
