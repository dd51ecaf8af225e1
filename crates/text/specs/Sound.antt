-- What every token that was read says of the text: it lies inside, reading has gone on, and its numbers are in their limits.
use Rattle.std.specs.Prelude.{true, List, [], ◌∷◌, ◌≡◌, refl, ℕ, ◌+◌, ◌*◌, ◌^◌, ◌≤◌, ◌<◌, eqb, length, drop, Option, Some, None}
use Rattle.std.proofs.Common.{ap, mul-le-mul_left, arith, eqb-true}
use Rattle.std.proofs.Math.Bool.{and-eq-true_iff}
use Rattle.octets.specs.Spans.{span}
use Rattle.text.specs.Bytes.{byte_at, is_digit, in_path, in_bare_path}
use Rattle.text.specs.Gaps.{token_place}
use Rattle.text.specs.GapLaws.{place_ge, place-le, place_twice, byte_inside}
use Rattle.text.specs.Answers.{no_number, some_is, word-is, number_is, sized_cases, path_of_is, quoted_is}
use Rattle.text.specs.RunLaws.{run_fits, run_all_at, same-fits}
use Rattle.text.specs.Steps.{split}
use Rattle.text.specs.Tokens.{run, word_at, number_at, sized, with_unit, size_at, path_of, quoted_path, bare_path, path_at}

-- ---- words and marks

-- the place behind a word that was read from place `at` on
pub record WordRead (word text : List ℕ) (at next : ℕ) : Type 0 where
  pub on : at + length word ≤ next
  pub inside : at ≤ length text → next ≤ length text

pub word_read : (word text : List ℕ) (at next : ℕ) → word_at word text at ≡ Some next → WordRead word text at next
word_read word text at next e =
    let told = word-is word text at next e in
    let n = told.1 in
    let fits = same-fits word text (token_place text at) told.0 in
    let low = place_ge text at in
    record { on = omega arith; inside = λ h. let high = place-le text at h in omega arith }

-- ---- numbers and sizes

pub record NumberRead (text : List ℕ) (at value next limit : ℕ) : Type 0 where
  pub on : at < next
  pub inside : next ≤ length text
  pub small : value < limit

pub number_read : (text : List ℕ) (at value next : ℕ) → number_at text at ≡ Some (value, next) → NumberRead text at value next (2 ^ 32)
unfolding number_at
number_read text at value next e =
    let p = token_place text at in
    let told = number_is text p value next e in
    let some = told.0 in
    let limit = told.1 in
    let behind = told.2 in
    let fits = run_fits is_digit text p in
    let low = place_ge text at in
    record { on = omega arith; inside = omega arith; small = omega arith }

sized-read : (value : ℕ) (text : List ℕ) (p size next : ℕ) → value < 2 ^ 32 → p ≤ length text → sized value text p ≡ (size, next)
    → (p ≤ next) × (next ≤ length text) × (size < 2 ^ 62)
sized-read value text p size next small inside =
    sized_cases (λ r. r ≡ (size, next) → (p ≤ next) × (next ≤ length text) × (size < 2 ^ 62)) value text p
    (λ q.
    let f : value ≡ size = ap (λ (t : ℕ × ℕ). t.0) q in
    let g : p ≡ next = ap (λ (t : ℕ × ℕ). t.1) q in
    (omega arith, omega arith, omega arith))
    (λ k a b most free t q.
    let f : value * k ≡ size = ap (λ (t : ℕ × ℕ). t.0) q in
    let g : p + 2 ≡ next = ap (λ (t : ℕ × ℕ). t.1) q in
    let fits = same-fits (a ∷ b ∷ []) text p t in
    let high : value * k ≤ value * 1073741824 = mul-le-mul_left value most in
    (omega arith, omega arith, omega arith))

pub size-read : (text : List ℕ) (at size next : ℕ) → size_at text at ≡ Some (size, next) → NumberRead text at size next (2 ^ 62)
unfolding size_at with_unit
size-read text at size next e = go (number_at text at) refl e
  where
    go : (r : Option (ℕ × ℕ)) → number_at text at ≡ r → with_unit text r ≡ Some (size, next) → NumberRead text at size next (2 ^ 62)
    go (Some (value, p)) f g =
        let read = number_read text at value p f in
        let unit = sized-read value text p size next read.small read.inside (some_is g) in
        record { on = omega arith; inside = unit.1; small = unit.2 }
    go None f g = absurd (no_number size next g)

-- ---- paths

-- a path that was read from place `at` on: n bytes from place `start` on, and the place behind it
pub record PathRead (text : List ℕ) (at start n next : ℕ) : Type 0 where
  pub from : at ≤ start
  pub behind : start + n ≤ next
  pub inside : next ≤ length text
  pub two : 2 ≤ n
  pub most : n ≤ 63
  pub slash : byte_at text start ≡ 47
  pub bytes : (i : ℕ) → i < n → in_path (byte_at text (start + i)) ≡ true

path_of_lem : (text : List ℕ) (p k behind start n next : ℕ) → p + k ≤ behind → (2 ≤ k → behind ≤ length text)
    → ((i : ℕ) → i < k → in_path (byte_at text (p + i)) ≡ true) → path_of text p k behind ≡ Some (span start n, next) → PathRead text p start n next
path_of_lem text p k behind start n next h fits all e =
    let told = path_of_is text p k behind start n next e in
    let two = told.1 in
    let most = told.2 in
    let ps = told.3 in
    let kn = told.4 in
    let bn = told.5 in
    let inside : behind ≤ length text = fits two in
    record {
      from = omega arith;
      behind = omega arith;
      inside = omega arith;
      two = omega arith;
      most = omega arith;
      slash = rw (← ps) told.0;
      bytes = λ i g. rw (← ps) (all i (rw (← kn) at g));
    }

bare-bytes : (b : ℕ) → in_bare_path b ≡ true → in_path b ≡ true
bare-bytes b e = ((and-eq-true_iff (in_path b) _).0 e).0

bare-read : (text : List ℕ) (p start n next : ℕ) → bare_path text p ≡ Some (span start n, next) → PathRead text p start n next
unfolding bare_path
bare-read text p start n next e =
    let k = run in_bare_path (drop p text) in
    let fits = run_fits in_bare_path text p in
    path_of_lem text p k (p + k) start n next (omega arith) (λ h. omega arith) (λ i h. bare-bytes (byte_at text (p + i)) (run_all_at in_bare_path text p i h)) e

quoted_read : (text : List ℕ) (p start n next : ℕ) → quoted_path text p ≡ Some (span start n, next) → PathRead text p start n next
quoted_read text p start n next e =
    let k = run in_path (drop p text) in
    let told = quoted_is text p start n next e in
    let mark : p + k < length text = byte_inside text (p + k) 34 (omega arith) (eqb-true (byte_at text (p + k)) 34 told.0) in
    path_of_lem text p k (p + k + 1) start n next (omega arith) (λ h. omega arith) (run_all_at in_path text p) told.1

-- a path of a later place is a path of this place
path-later : (text : List ℕ) (at p start n next : ℕ) → at ≤ p → PathRead text p start n next → PathRead text at start n next
path-later text at p start n next h r =
    record { from = omega arith; behind = r.behind; inside = r.inside; two = r.two; most = r.most; slash = r.slash; bytes = r.bytes }

pub path-read : (text : List ℕ) (at start n next : ℕ) → path_at text at ≡ Some (span start n, next) → PathRead text at start n next
unfolding path_at
path-read text at start n next e =
    let p = token_place text at in
    let low = place_ge text at in
    split (eqb (byte_at text p) 34)
    (λ t. path-later text at (p + 1) start n next (omega arith) (quoted_read text (p + 1) start n next (rw t at e)))
    (λ t. path-later text at p start n next (omega arith) (bare-read text p start n next (rw t at e)))

-- ---- a token is read from its own place as from before the gap

pub word_here : (word text : List ℕ) (at : ℕ) → word_at word text (token_place text at) ≡ word_at word text at
unfolding word_at
word_here word text at = rw place_twice

pub number_here : (text : List ℕ) (at : ℕ) → number_at text (token_place text at) ≡ number_at text at
unfolding number_at
number_here text at = rw place_twice

pub size_here : (text : List ℕ) (at : ℕ) → size_at text (token_place text at) ≡ size_at text at
unfolding size_at
size_here text at = rw number_here

pub path_here : (text : List ℕ) (at : ℕ) → path_at text (token_place text at) ≡ path_at text at
unfolding path_at
path_here text at = rw place_twice
