-- What an answer says of the tests that led to it.
use Rattle.std.specs.Prelude.{Bool, true, false, cond, ◌&&◌, ◌||◌, List, [], ◌∷◌, ◌≡◌, refl, ℕ, ◌+◌, ◌*◌, ◌≤◌, eqb, leb, ltb, length, drop, Option, Some, None}
use Rattle.std.proofs.Common.{ap, sym, arith, eqb-true, ltb-false, leb-true, lit≤}
use Rattle.std.proofs.Math.Bool.{and-eq-true_iff}
use Rattle.std.proofs.lemmas.Bool.{false≢true, eqb-false}
use Rattle.std.proofs.lemmas.Option.{none-some}
use Rattle.octets.specs.Lists.{part}
use Rattle.octets.specs.Same.{same_bytes}
use Rattle.octets.specs.Spans.{span}
use Rattle.octets.specs.declared.span.Span.{Span}
use Rattle.text.specs.Bytes.{byte_at, is_digit, in_path}
use Rattle.text.specs.Comments.{plain}
use Rattle.text.specs.Gaps.{token_place}
use Rattle.text.specs.Steps.{split}
use Rattle.text.specs.Tokens.{run, word_at, decimal_from, number_from, sized, path_of, quoted_path}

-- ---- one of two, told by the answer

chosen : {A : Type 0} (t : Bool) {a b c : A} → cond t a b ≡ c → (b ≡ c → ⊥) → (t ≡ true) × (a ≡ c)
chosen true e n = (refl, e)
chosen false e n = absurd (n e)

passed : {A : Type 0} (t : Bool) {a b c : A} → cond t a b ≡ c → (a ≡ c → ⊥) → (t ≡ false) × (b ≡ c)
passed true e n = absurd (n e)
passed false e n = (refl, e)

neither : (a b : Bool) → a || b ≡ false → (a ≡ false) × (b ≡ false)
neither true b e = absurd (false≢true (sym e))
neither false b e = (refl, e)

no_mark : (next : ℕ) → None ≡ Some next → ⊥
no_mark next e = none-some next e

pub no_number : (value next : ℕ) → ◌≡◌ {A = Option (ℕ × ℕ)} None (Some (value, next)) → ⊥
no_number value next e = none-some (value, next) e

no_path : (start n next : ℕ) → ◌≡◌ {A = Option (Span × ℕ)} None (Some (span start n, next)) → ⊥
no_path start n next e = none-some (span start n, next) e

-- what is there is one thing
pub some_is : {A : Type 0} {x y : A} → Some x ≡ Some y → x ≡ y
some_is e = cc

-- ---- words and marks

pub word-is : (word text : List ℕ) (at next : ℕ) → word_at word text at ≡ Some next
    → (same_bytes (part (token_place text at) (length word) text) word ≡ true) × (token_place text at + length word ≡ next)
unfolding word_at
word-is word text at next e =
    let p = token_place text at in
    let told = chosen (same_bytes (part p (length word) text) word) e (no_mark next) in
    let q : Some (p + length word) ≡ Some next = told.1 in
    let n : p + length word ≡ next = cc in
    (told.0, n)

-- ---- numbers and sizes

pub number_is : (text : List ℕ) (p value next : ℕ) → number_from text p ≡ Some (value, next)
    → (run is_digit (drop p text) ≡ 0 → ⊥) × (value ≤ 4294967295) × (p + run is_digit (drop p text) ≡ next)
unfolding number_from
number_is text p value next e =
    let n = run is_digit (drop p text) in
    let v = decimal_from 0 (part p n text) in
    let told = passed (eqb n 0 || ltb 4294967295 v) e (no_number value next) in
    let both = neither (eqb n 0) (ltb 4294967295 v) told.0 in
    let q : ◌≡◌ {A = Option (ℕ × ℕ)} (Some (v, p + n)) (Some (value, next)) = told.1 in
    let r : ◌≡◌ {A = ℕ × ℕ} (v, p + n) (value, next) = cc in
    let f : v ≡ value = ap (λ (t : ℕ × ℕ). t.0) r in
    let g : p + n ≡ next = ap (λ (t : ℕ × ℕ). t.1) r in
    let limit : v ≤ 4294967295 = ltb-false 4294967295 v both.1 in
    (eqb-false n 0 both.0, omega arith, g)

-- a number stands alone, or a unit of two bytes directly behind it
pub sized_cases : (P : ℕ × ℕ → Type 0) (value : ℕ) (text : List ℕ) (p : ℕ) → P (value, p)
    → ((k a b : ℕ) → k ≤ 1073741824 → plain (a ∷ b ∷ []) ≡ true → same_bytes (part p 2 text) (a ∷ b ∷ []) ≡ true → P (value * k, p + 2))
    → P (sized value text p)
unfolding sized plain
sized_cases P value text p alone unit =
    let row = part p 2 text in
    split (same_bytes row (75 ∷ 66 ∷ []))
    (λ t. rw t (unit 1024 75 66 (lit≤ tt) refl t))
    (λ t. split (same_bytes row (77 ∷ 66 ∷ []))
    (λ u. rw (t, u) (unit 1048576 77 66 (lit≤ tt) refl u))
    (λ u. split (same_bytes row (71 ∷ 66 ∷ []))
    (λ w. rw (t, u, w) (unit 1073741824 71 66 (lit≤ tt) refl w))
    (λ w. rw (t, u, w) alone)))

-- ---- paths

pub path_of_is : (text : List ℕ) (p k behind start n next : ℕ) → path_of text p k behind ≡ Some (span start n, next)
    → (byte_at text p ≡ 47) × (2 ≤ k) × (k ≤ 63) × (p ≡ start) × (k ≡ n) × (behind ≡ next)
unfolding path_of
path_of_is text p k behind start n next e =
    let told = chosen (eqb (byte_at text p) 47 && (leb 2 k && leb k 63)) e (no_path start n next) in
    let first = (and-eq-true_iff (eqb (byte_at text p) 47) (leb 2 k && leb k 63)).0 told.0 in
    let limits = (and-eq-true_iff (leb 2 k) (leb k 63)).0 first.1 in
    let q : ◌≡◌ {A = Option (Span × ℕ)} (Some (span p k, behind)) (Some (span start n, next)) = told.1 in
    let r : ◌≡◌ {A = Span × ℕ} (span p k, behind) (span start n, next) = cc in
    let ps : p ≡ start = ap (λ (t : Span × ℕ). (t.0).place) r in
    let kn : k ≡ n = ap (λ (t : Span × ℕ). (t.0).length) r in
    let bn : behind ≡ next = ap (λ (t : Span × ℕ). t.1) r in
    (eqb-true (byte_at text p) 47 first.0, leb-true 2 k limits.0, leb-true k 63 limits.1, ps, kn, bn)

pub quoted_is : (text : List ℕ) (p start n next : ℕ) → quoted_path text p ≡ Some (span start n, next)
    → (eqb (byte_at text (p + run in_path (drop p text))) 34 ≡ true)
    × (path_of text p (run in_path (drop p text)) (p + run in_path (drop p text) + 1) ≡ Some (span start n, next))
unfolding quoted_path
quoted_is text p start n next e = chosen (eqb (byte_at text (p + run in_path (drop p text))) 34) e (no_path start n next)
