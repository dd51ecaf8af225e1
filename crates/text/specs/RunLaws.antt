-- Laws of runs, of words that are there, and of the number that a run of digits spells.
use Rattle.std.specs.List.{prefix_len, fold}
use Rattle.std.specs.Prelude.{Bool, true, false, cond, count_by, refl, ◌*◌, take, ◌||◌, List, [], ◌∷◌, ◌≡◌, ℕ, zero, suc, ◌+◌, ◌-◌, ◌≤◌, ◌<◌, min, eqb, ltb, length, drop, Some, None}
use Rattle.std.proofs.Common.{◌∙◌, ap, le_of_suc-le-suc, not-suc-le-zero, arith, eq-eqb, ne_eqb, eqb-true, ltb-true, ltb-false, lt-ltb, length-drop, get_or-drop}
use Rattle.std.proofs.lemmas.Bool.{eqb-false}
use Rattle.std.proofs.lemmas.List.Folds.{length-prefix_len}
use Rattle.std.proofs.lemmas.List.Recursion.{is_count_by}
use Rattle.octets.specs.Lists.{part}
use Rattle.octets.specs.PartLaws.{length_part}
use Rattle.octets.specs.Same.{same_bytes, same-eq}
use Rattle.text.specs.Bytes.{byte_at, is_digit, in_path, in_bare_path}
use Rattle.text.specs.Gaps.{token_place, line_feeds}
use Rattle.text.specs.Steps.{split}
use Rattle.text.specs.Tokens.{run, decimal_from, number_from, number_at, path_of, quoted_path, bare_path}

-- ---- runs

pub run-le : (test : ℕ → Bool) (l : List ℕ) → run test l ≤ length l
unfolding run
run-le test [] = omega arith
run-le test (b ∷ l) = split (test b) (λ e. rw e (omega (arith, run-le test l))) (λ e. rw e (omega arith))

-- a run stays inside the text, or is empty
pub run_fits : (test : ℕ → Bool) (text : List ℕ) (p : ℕ) → run test (drop p text) ≤ length text - p
run_fits test text p = rw (← length-drop p text) (run-le test (drop p text))

-- every byte of a run passes the test
pub run_all : (test : ℕ → Bool) (l : List ℕ) (i : ℕ) → i < run test l → test (byte_at l i) ≡ true
unfolding run
run_all test [] i h = absurd (not-suc-le-zero h)
run_all test (b ∷ l) zero h = split (test b) (λ e. e) (λ e. absurd (not-suc-le-zero (rw e at h)))
run_all test (b ∷ l) (suc i) h =
    split (test b) (λ e. run_all test l i (le_of_suc-le-suc (rw e at h))) (λ e. absurd (not-suc-le-zero (rw e at h)))

pub run_all_at : (test : ℕ → Bool) (text : List ℕ) (p i : ℕ) → i < run test (drop p text) → test (byte_at text (p + i)) ≡ true
run_all_at test text p i h = rw (← get_or-drop p text i 256) (run_all test (drop p text) i h)

-- ---- words

-- a word that is there lies inside the text, or is empty
pub same-fits : (word text : List ℕ) (p : ℕ) → same_bytes (part p (length word) text) word ≡ true → length word ≤ length text - p
same-fits word text p e =
    let k = length_part p (length word) text in
    let s = ap length (same-eq (part p (length word) text) word e) in
    omega arith

-- ---- numbers

-- what the limit cuts off is refused all the same, and nothing else is changed
pub number_capped : (text : List ℕ) (p next v : ℕ) → next ≡ p + run is_digit (drop p text)
    → v ≡ min (decimal_from 0 (part p (next - p) text)) 4294967296
    → cond (eqb next p || ltb 4294967295 v) None (Some (v, next)) ≡ number_from text p
unfolding number_from
number_capped text p next v e f =
    let n = run is_digit (drop p text) in
    let value = decimal_from 0 (part p n text) in
    let back : next - p ≡ n = omega arith in
    let held : v ≡ min value 4294967296 = rw back at f in
    split (eqb n 0)
    (λ z. let none : n ≡ 0 = eqb-true n 0 z in rw (z, eq-eqb next p (omega arith)))
    (λ z.
    let some : n ≡ 0 → ⊥ = eqb-false n 0 z in
    let apart : eqb next p ≡ false = ne_eqb next p (λ q. some (omega arith)) in
    split (ltb 4294967295 value)
    (λ g.
    let b : 4294967295 < value = ltb-true 4294967295 value g in
    rw (z, g, apart, lt-ltb 4294967295 v (omega arith)))
    (λ g.
    let b : value ≤ 4294967295 = ltb-false 4294967295 value g in
    let same : v ≡ value = omega arith in
    rw (z, apart, same, g, e)))

-- ---- what the code's tests and places say of the definitions

pub number-told : (text piece : List ℕ) (at p next v : ℕ) {t : Bool} → p ≡ token_place text at → next ≡ p + run is_digit (drop p text)
    → piece ≡ part p (next - p) text → v ≡ min (decimal_from 0 piece) 4294967296 → (eqb next p || ltb 4294967295 v) ≡ t
    → cond t None (Some (v, next)) ≡ number_at text at
unfolding number_at
number-told text piece at p next v place end part value e = rw (← place, ← e) (number_capped text p next v end (rw part at value))

-- the same of the run's length, as the code has it
pub number_said : (text piece : List ℕ) (at p n v : ℕ) {t : Bool} → p ≡ token_place text at → n ≡ run is_digit (drop p text)
    → piece ≡ part p n text → v ≡ min (decimal_from 0 piece) 4294967296 → (eqb n 0 || ltb 4294967295 v) ≡ t
    → cond t None (Some (v, p + n)) ≡ number_at text at
number_said text piece at p n v place length part value e =
    let none : eqb (p + n) p ≡ eqb n 0
    = split (eqb n 0) (λ z. let k = eqb-true n 0 z in rw z (eq-eqb (p + n) p (omega arith)))
    (λ z. let k = eqb-false n 0 z in rw z (ne_eqb (p + n) p (λ q. k (omega arith)))) in
    let back : p + n - p ≡ n = omega arith in
    number-told text piece at p (p + n) v place (rw length) (rw back part) value (rw none e)

-- r is the test's answer, and the piece is that part of the text
pub told : (piece row word : List ℕ) {r t : Bool} → piece ≡ row → r ≡ same_bytes piece word → r ≡ t → same_bytes row word ≡ t
told piece row word p s e = rw (← p, ← s) e

-- the end of a run is its place and its length
pub bare-told : (text : List ℕ) (p end : ℕ) → end ≡ p + run in_bare_path (drop p text) → path_of text p (end - p) end ≡ bare_path text p
unfolding bare_path
bare-told text p end e =
    let back : p + run in_bare_path (drop p text) - p ≡ run in_bare_path (drop p text) = omega arith in
    rw (e, back)

pub quoted_told : (text : List ℕ) (p end : ℕ) → end ≡ p + run in_path (drop p text)
    → cond (eqb (byte_at text end) 34) (path_of text p (end - p) (end + 1)) None ≡ quoted_path text p
unfolding quoted_path
quoted_told text p end e =
    let back : p + run in_path (drop p text) - p ≡ run in_path (drop p text) = omega arith in
    rw (e, back)

-- ---- the library's words for runs, line feeds and digits

-- a run is as long as the first bytes that pass the test
run_prefix : (test : ℕ → Bool) (l : List ℕ) → prefix_len test l ≡ run test l
unfolding run
run_prefix test [] = refl
run_prefix test (b ∷ l) = split (test b) (λ e. rw (e, run_prefix test l) (omega arith)) (λ e. rw e)

pub run_taken : (test : ℕ → Bool) (l : List ℕ) → length (take (prefix_len test l) l) ≡ run test l
run_taken test l = length-prefix_len test l ∙ run_prefix test l

pub feeds_counted : (l : List ℕ) → line_feeds l ≡ count_by (λ b. eqb b 10) l
unfolding line_feeds
feeds_counted l = is_count_by line_feeds (λ b. eqb b 10) refl (λ b m. split (eqb b 10) (λ e. rw e (omega arith)) (λ e. rw e)) l

-- a value that is held down to the limit at each digit comes to the number of all of them, held down to it
pub held_digits : (value : ℕ) (l : List ℕ) → fold (λ v b. min (v * 10 + (b - 48)) 4294967296) (min value 4294967296) l ≡ min (decimal_from value l) 4294967296
unfolding decimal_from
held_digits value [] = refl
held_digits value (b ∷ l) =
    let e : min (min value 4294967296 * 10 + (b - 48)) 4294967296 ≡ min (value * 10 + (b - 48)) 4294967296 = omega arith in
    rw e (held_digits (value * 10 + (b - 48)) l)

pub held_all : (l : List ℕ) → fold (λ v b. min (v * 10 + (b - 48)) 4294967296) 0 l ≡ min (decimal_from 0 l) 4294967296
held_all l = held_digits 0 l
