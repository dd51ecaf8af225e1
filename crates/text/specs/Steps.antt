-- One byte's part in a gap, in a run, in a line count and in a number: what the loops go by.
use Rattle.std.specs.Prelude.{Bool, true, false, cond, ◌&&◌, ◌||◌, not, List, [], ◌∷◌, ◌≡◌, refl, ℕ, suc, ◌+◌, ◌-◌, ◌*◌, ◌≤◌, ◌<◌, min, eqb, length, get_or, drop}
use Rattle.std.proofs.Common.{sym, ◌∙◌, add-zero, suc-add, add-suc, add-one, arith, eqb-true, drop_of_length-le, drop-cons}
use Rattle.text.specs.Bytes.{separates, is_digit, in_path, in_bare_path}
use Rattle.text.specs.Gaps.{gap_from, line_feeds}
use Rattle.text.specs.Tokens.{run, decimal_from}
use Rattle.text.specs.declared.Class.{Class}
use Rattle.text.specs.declared.Class.TheVariants.{Digit, Bare, Quoted}

-- a test comes out one way or the other
pub split : (t : Bool) {P : Type 0} → (t ≡ true → P) → (t ≡ false → P) → P
split true f g = f refl
split false f g = g refl

-- whether a gap, in a comment or not, goes on with the byte b
abbrev pub gap_on : Bool → ℕ → Bool
gap_on comment b = comment || (eqb b 35 || separates b)

-- whether there is a comment behind the byte b: it began there or before, and b does not end it
abbrev pub comment_on : Bool → ℕ → Bool
comment_on comment b = (comment || eqb b 35) && not (eqb b 10)

-- how many line feeds a byte is
abbrev pub feed : ℕ → ℕ
feed b = cond (eqb b 10) 1 0

abbrev pub of_class : Class → ℕ → Bool
of_class Digit = is_digit
of_class Bare = in_bare_path
of_class Quoted = in_path

-- ---- gaps

pub gap_nil : (comment : Bool) (i : ℕ) → gap_from comment [] i ≡ i
unfolding gap_from
gap_nil true i = refl
gap_nil false i = refl

pub gap_cons : (comment : Bool) (b : ℕ) (l : List ℕ) (i : ℕ)
    → gap_from comment (b ∷ l) i ≡ cond (gap_on comment b) (gap_from (comment_on comment b) l (suc i)) i
unfolding gap_from
gap_cons true b l i = refl
gap_cons false b l i = split (eqb b 35) (λ e. rw (eqb-true b 35 e)) (λ e. rw e)

pub gap_end : (comment : Bool) (text : List ℕ) (i : ℕ) → length text ≤ i → gap_from comment (drop i text) i ≡ i
gap_end comment text i h = rw (drop_of_length-le text h) (gap_nil comment i)

pub gap_stop : (comment : Bool) (text : List ℕ) (i : ℕ) → i < length text → gap_on comment (get_or text i 0) ≡ false
    → gap_from comment (drop i text) i ≡ i
gap_stop comment text i h e = rw (drop-cons text i 0 h, gap_cons, e)

pub gap_step : (comment : Bool) (text : List ℕ) (i : ℕ) → i < length text → gap_on comment (get_or text i 0) ≡ true
    → gap_from comment (drop i text) i ≡ gap_from (comment_on comment (get_or text i 0)) (drop (i + 1) text) (i + 1)
gap_step comment text i h e = rw (drop-cons text i 0 h, gap_cons, e, add-one)

-- ---- runs

pub run_end : (test : ℕ → Bool) (text : List ℕ) (i : ℕ) → length text ≤ i → i + run test (drop i text) ≡ i
unfolding run
run_end test text i h = rw (drop_of_length-le text h, add-zero)

pub run_stop : (test : ℕ → Bool) (text : List ℕ) (i : ℕ) → i < length text → test (get_or text i 0) ≡ false → i + run test (drop i text) ≡ i
unfolding run
run_stop test text i h e = rw (drop-cons text i 0 h, e, add-zero)

pub run_step : (test : ℕ → Bool) (text : List ℕ) (i : ℕ) → i < length text → test (get_or text i 0) ≡ true
    → i + run test (drop i text) ≡ i + 1 + run test (drop (i + 1) text)
unfolding run
run_step test text i h e = rw (drop-cons text i 0 h, e, add-one, add-suc, suc-add)

-- ---- line feeds

pub feeds_end : (text : List ℕ) (i : ℕ) → length text ≤ i → line_feeds (drop i text) ≡ 0
unfolding line_feeds
feeds_end text i h = rw (drop_of_length-le text h)

pub feeds_cons : (b : ℕ) (l : List ℕ) → line_feeds (b ∷ l) ≡ feed b + line_feeds l
unfolding line_feeds
feeds_cons b l = split (eqb b 10) (λ e. rw e (omega arith)) (λ e. rw e (omega arith))

pub feeds_step : (text : List ℕ) (i : ℕ) → i < length text → line_feeds (drop i text) ≡ feed (get_or text i 0) + line_feeds (drop (i + 1) text)
feeds_step text i h = rw (drop-cons text i 0 h, feeds_cons, add-one)

pub feed-le : (b : ℕ) → feed b ≤ 1
feed-le b = split (eqb b 10) (λ e. rw e (omega arith)) (λ e. rw e (omega arith))

pub feeds_le : (l : List ℕ) → line_feeds l ≤ length l
unfolding line_feeds
feeds_le [] = omega arith
feeds_le (b ∷ l) = rw feeds_cons (omega (arith, feed-le b, feeds_le l))

-- ---- digits

-- a value above the limit stays above it, whatever digits follow
pub decimal_cap : (value : ℕ) (l : List ℕ) → min (decimal_from (min value 4294967296) l) 4294967296 ≡ min (decimal_from value l) 4294967296
unfolding decimal_from
decimal_cap value [] = omega arith
decimal_cap value (b ∷ l) =
    let e : min (min value 4294967296 * 10 + (b - 48)) 4294967296 ≡ min (value * 10 + (b - 48)) 4294967296 = omega arith in
    sym (decimal_cap (min value 4294967296 * 10 + (b - 48)) l) ∙ rw e (decimal_cap (value * 10 + (b - 48)) l)

pub decimal_end : (value : ℕ) (l : List ℕ) (i : ℕ) → length l ≤ i → decimal_from value (drop i l) ≡ value
unfolding decimal_from
decimal_end value l i h = rw (drop_of_length-le l h)

pub decimal_step : (value : ℕ) (l : List ℕ) (i : ℕ) → i < length l
    → min (decimal_from value (drop i l)) 4294967296
    ≡ min (decimal_from (min (value * 10 + (get_or l i 0 - 48)) 4294967296) (drop (i + 1) l)) 4294967296
unfolding decimal_from
decimal_step value l i h = rw (drop-cons l i 0 h, add-one) (sym (decimal_cap (value * 10 + (get_or l i 0 - 48)) (drop (suc i) l)))
