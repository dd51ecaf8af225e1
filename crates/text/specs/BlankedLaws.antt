-- The comment rule twice: read from a place outside comments, every token of a text is that of the text with its comments blanked, and
-- the place behind it is outside comments again.
use Rattle.std.specs.Prelude.{Bool, true, false, ◌&&◌, not, ◌≡◌, ℕ, ◌+◌, eqb, length, take, drop, List, [], ◌∷◌, refl, Option, Some, None}
use Rattle.std.proofs.Common.{sym, ap, ◌∙◌, eqb-true, ne_eqb, get_or-drop}
use Rattle.std.proofs.Math.Bool.{and-eq-true_iff}
use Rattle.std.proofs.lemmas.Bool.{false≢true, eqb-false, not-true}
use Rattle.octets.specs.Lists.{part}
use Rattle.octets.specs.Same.{same_bytes, same-eq}
use Rattle.octets.specs.Spans.{span}
use Rattle.text.specs.Answers.{no_number, some_is, word-is, number_is, sized_cases, path_of_is, quoted_is}
use Rattle.text.specs.Bytes.{byte_at, is_digit, in_path, in_bare_path}
use Rattle.text.specs.Gaps.{token_place, line_of}
use Rattle.text.specs.Comments.{blanked_from, blanked, comment_behind, Outside, plain}
use Rattle.text.specs.CommentLaws.{outside-drop, outside-bytes, outside-byte, outside-run, outside-place, place-blanked, line-blanked, byte-drop, behind-nil, behind-cons}
use Rattle.text.specs.Steps.{split}
use Rattle.text.specs.Tokens.{run, word_at, number_from, number_at, sized, with_unit, size_at, path_of, quoted_path, bare_path, path_at}

-- ---- words and marks

plain-head : (w : ℕ) (word : List ℕ) → plain (w ∷ word) ≡ true → (eqb 32 w ≡ false) × (eqb 35 w ≡ false) × (plain word ≡ true)
unfolding plain
plain-head w word e =
    let all = (and-eq-true_iff (not (eqb w 32) && not (eqb w 35)) (plain word)).0 e in
    let head = (and-eq-true_iff (not (eqb w 32)) (not (eqb w 35))).0 all.0 in
    let space = eqb-false w 32 (not-true (eqb w 32) head.0) in
    let hash = eqb-false w 35 (not-true (eqb w 35) head.1) in
    (ne_eqb 32 w (λ q. space (sym q)), ne_eqb 35 w (λ q. hash (sym q)), all.1)

plain_calm : (word : List ℕ) → plain word ≡ true → comment_behind false word ≡ false
plain_calm [] e = behind-nil false
plain_calm (w ∷ word) e =
    let head = plain-head w word e in
    let other : eqb w 35 ≡ false = ne_eqb w 35 (λ q. eqb-false 35 w head.1 (sym q)) in
    rw (behind-cons false w word, other) (plain_calm word head.2)

same-blanked : (word l : List ℕ) → plain word ≡ true → same_bytes (take (length word) (blanked_from false l)) word ≡ same_bytes (take (length word) l) word
unfolding blanked_from same_bytes
same-blanked [] l e = refl
same-blanked (w ∷ word) [] e = refl
same-blanked (w ∷ word) (b ∷ l) e =
    let head = plain-head w word e in
    split (eqb b 35) (λ t. rw (eqb-true b 35 t, head.0, head.1)) (λ t. rw (t, same-blanked word l head.2))

part_same : (word text : List ℕ) (p : ℕ) → Outside text p → plain word ≡ true
    → same_bytes (part p (length word) (blanked text)) word ≡ same_bytes (part p (length word) text) word
unfolding part
part_same word text p h e = rw (outside-drop text p h) (same-blanked word (drop p text) e)

pub word-blanked : (word text : List ℕ) (at : ℕ) → plain word ≡ true → Outside text at → word_at word (blanked text) at ≡ word_at word text at
unfolding word_at
word-blanked word text at e h = rw (place-blanked text at h, part_same word text (token_place text at) (outside-place text at h) e)

pub word-outside : (word text : List ℕ) (at next : ℕ) → plain word ≡ true → Outside text at → word_at word text at ≡ Some next → Outside text next
word-outside word text at next e h r =
    let p = token_place text at in
    let told = word-is word text at next r in
    rw told.1 at (outside-bytes text p word (outside-place text at h) (same-eq (part p (length word) text) word told.0) (plain_calm word e))

-- ---- runs

run-blanked : (test : ℕ → Bool) → test 35 ≡ false → test 32 ≡ false → (l : List ℕ) → run test (blanked_from false l) ≡ run test l
unfolding blanked_from run
run-blanked test t s [] = refl
run-blanked test t s (b ∷ l) = split (eqb b 35) (λ e. rw (eqb-true b 35 e, t, s)) (λ e. rw (e, run-blanked test t s l))

take-run-blanked : (test : ℕ → Bool) → test 35 ≡ false → (l : List ℕ) → take (run test l) (blanked_from false l) ≡ take (run test l) l
unfolding blanked_from run
take-run-blanked test t [] = refl
take-run-blanked test t (b ∷ l) =
    split (eqb b 35)
    (λ e. rw (eqb-true b 35 e, t))
    (λ e. split (test b) (λ f. rw (e, f, take-run-blanked test t l)) (λ f. rw f))

-- ---- numbers and sizes

number-from-blanked : (text : List ℕ) (p : ℕ) → Outside text p → number_from (blanked text) p ≡ number_from text p
unfolding number_from part
number-from-blanked text p h =
    rw (outside-drop text p h, run-blanked is_digit refl refl (drop p text), take-run-blanked is_digit refl (drop p text))

pub number-blanked : (text : List ℕ) (at : ℕ) → Outside text at → number_at (blanked text) at ≡ number_at text at
unfolding number_at
number-blanked text at h = rw (place-blanked text at h) (number-from-blanked text (token_place text at) (outside-place text at h))

pub number-outside : (text : List ℕ) (at value next : ℕ) → Outside text at → number_at text at ≡ Some (value, next) → Outside text next
unfolding number_at
number-outside text at value next h r =
    let p = token_place text at in
    rw (number_is text p value next r).2 at (outside-run is_digit refl text p (outside-place text at h))

sized-blanked : (value : ℕ) (text : List ℕ) (p : ℕ) → Outside text p → sized value (blanked text) p ≡ sized value text p
unfolding sized plain
sized-blanked value text p h =
    rw (part_same (75 ∷ 66 ∷ []) text p h refl, part_same (77 ∷ 66 ∷ []) text p h refl, part_same (71 ∷ 66 ∷ []) text p h refl)

pub size-blanked : (text : List ℕ) (at : ℕ) → Outside text at → size_at (blanked text) at ≡ size_at text at
unfolding size_at with_unit
size-blanked text at h = rw (number-blanked text at h) (go (number_at text at) refl)
  where
    go : (r : Option (ℕ × ℕ)) → number_at text at ≡ r → with_unit (blanked text) r ≡ with_unit text r
    go (Some (value, p)) e = ap (λ (n : ℕ × ℕ). Some n) (sized-blanked value text p (number-outside text at value p h e))
    go None e = refl

sized-outside : (value : ℕ) (text : List ℕ) (p size next : ℕ) → Outside text p → sized value text p ≡ (size, next) → Outside text next
sized-outside value text p size next h =
    sized_cases (λ r. r ≡ (size, next) → Outside text next) value text p
    (λ q. let n : p ≡ next = ap (λ (t : ℕ × ℕ). t.1) q in rw n at h)
    (λ k a b most free t q.
    let n : p + 2 ≡ next = ap (λ (t : ℕ × ℕ). t.1) q in
    rw n at (outside-bytes text p (a ∷ b ∷ []) h (same-eq (part p 2 text) (a ∷ b ∷ []) t) (plain_calm (a ∷ b ∷ []) free)))

pub size-outside : (text : List ℕ) (at size next : ℕ) → Outside text at → size_at text at ≡ Some (size, next) → Outside text next
unfolding size_at with_unit
size-outside text at size next h e = go (number_at text at) refl e
  where
    go : (r : Option (ℕ × ℕ)) → number_at text at ≡ r → with_unit text r ≡ Some (size, next) → Outside text next
    go (Some (value, p)) f g = sized-outside value text p size next (number-outside text at value p h f) (some_is g)
    go None f g = absurd (no_number size next g)

-- ---- paths

head-blanked : (k : ℕ) → eqb 32 k ≡ false → eqb 35 k ≡ false → (l : List ℕ) → eqb (byte_at (blanked_from false l) 0) k ≡ eqb (byte_at l 0) k
unfolding blanked_from
head-blanked k s t [] = refl
head-blanked k s t (b ∷ l) = split (eqb b 35) (λ e. rw (eqb-true b 35 e, s, t)) (λ e. rw e)

-- one byte's test, for a byte that a comment cannot be taken for
byte-blanked : (k : ℕ) → eqb 32 k ≡ false → eqb 35 k ≡ false → (text : List ℕ) (p : ℕ) → Outside text p
    → eqb (byte_at (blanked text) p) k ≡ eqb (byte_at text p) k
byte-blanked k s t text p h =
    rw (byte-drop (blanked text) p, byte-drop text p, outside-drop text p h) (head-blanked k s t (drop p text))

path_of_blanked : (text : List ℕ) (p n next : ℕ) → Outside text p → path_of (blanked text) p n next ≡ path_of text p n next
unfolding path_of
path_of_blanked text p n next h = rw (byte-blanked 47 refl refl text p h)

bare-blanked : (text : List ℕ) (p : ℕ) → Outside text p → bare_path (blanked text) p ≡ bare_path text p
unfolding bare_path
bare-blanked text p h =
    let n = run in_bare_path (drop p text) in
    rw (outside-drop text p h, run-blanked in_bare_path refl refl (drop p text)) (path_of_blanked text p n (p + n) h)

-- whether a quote mark ends the run of bytes that pass the test
abbrev closes : (ℕ → Bool) → List ℕ → Bool
closes test l = eqb (byte_at l (run test l)) 34

module _ (test : ℕ → Bool) (space : test 32 ≡ true) (feed : test 10 ≡ false) (hash : test 35 ≡ false) where
  -- a comment's spaces go on to the line feed, or to the end
  unclosed : (l : List ℕ) → closes test (blanked_from true l) ≡ false
  unfolding blanked_from run
  unclosed [] = refl
  unclosed (b ∷ l) = split (eqb b 10) (λ e. rw (eqb-true b 10 e, feed)) (λ e. rw (e, space) (unclosed l))

  closes-blanked : (l : List ℕ) → closes test (blanked_from false l) ≡ closes test l
  unfolding blanked_from run
  closes-blanked [] = refl
  closes-blanked (b ∷ l) =
      split (eqb b 35)
      (λ e. rw (eqb-true b 35 e, space, hash) (unclosed l))
      (λ e. split (test b) (λ f. rw (e, f) (closes-blanked l)) (λ f. rw (e, f)))

  closed_run : (l : List ℕ) → closes test l ≡ true → run test (blanked_from false l) ≡ run test l
  unfolding blanked_from run
  closed_run [] c = refl
  closed_run (b ∷ l) c =
      split (eqb b 35)
      (λ e. absurd (false≢true (rw (eqb-true b 35 e, hash) at c)))
      (λ e. split (test b) (λ f. rw (e, f, closed_run l (rw f at c))) (λ f. rw (e, f)))

closes_at : (text : List ℕ) (p : ℕ) → eqb (byte_at text (p + run in_path (drop p text))) 34 ≡ closes in_path (drop p text)
closes_at text p = ap (λ (b : ℕ). eqb b 34) (sym (get_or-drop p text (run in_path (drop p text)) 256))

-- a '#' in quote marks leaves the path unclosed, taken out or not
quoted_blanked : (text : List ℕ) (p : ℕ) → Outside text p → quoted_path (blanked text) p ≡ quoted_path text p
unfolding quoted_path
quoted_blanked text p h =
    let l = drop p text in
    let n = run in_path l in
    let same : closes in_path (drop p (blanked text)) ≡ closes in_path l
    = rw (outside-drop text p h) (closes-blanked in_path refl refl refl l) in
    split (closes in_path l)
    (λ c.
    let there : eqb (byte_at (blanked text) (p + run in_path (drop p (blanked text)))) 34 ≡ true = closes_at (blanked text) p ∙ same ∙ c in
    let long : run in_path (drop p (blanked text)) ≡ n = rw (outside-drop text p h) (closed_run in_path refl refl refl l c) in
    rw (there, closes_at text p ∙ c, long) (path_of_blanked text p n (p + n + 1) h))
    (λ c.
    let there : eqb (byte_at (blanked text) (p + run in_path (drop p (blanked text)))) 34 ≡ false = closes_at (blanked text) p ∙ same ∙ c in
    rw (there, closes_at text p ∙ c))

quote_outside : (text : List ℕ) (p : ℕ) → Outside text p → eqb (byte_at text p) 34 ≡ true → Outside text (p + 1)
quote_outside text p h t = outside-byte text p h (rw (eqb-true (byte_at text p) 34 t))

pub path-blanked : (text : List ℕ) (at : ℕ) → Outside text at → path_at (blanked text) at ≡ path_at text at
unfolding path_at
path-blanked text at h =
    let p = token_place text at in
    let o = outside-place text at h in
    rw (place-blanked text at h, byte-blanked 34 refl refl text p o)
    (split (eqb (byte_at text p) 34)
    (λ t. rw t (quoted_blanked text (p + 1) (quote_outside text p o t)))
    (λ t. rw t (bare-blanked text p o)))

quoted_outside : (text : List ℕ) (p start n next : ℕ) → Outside text p → quoted_path text p ≡ Some (span start n, next) → Outside text next
quoted_outside text p start n next h e =
    let k = run in_path (drop p text) in
    let told = quoted_is text p start n next e in
    rw (path_of_is text p k (p + k + 1) start n next told.1).5 at (quote_outside text (p + k) (outside-run in_path refl text p h) told.0)

bare-outside : (text : List ℕ) (p start n next : ℕ) → Outside text p → bare_path text p ≡ Some (span start n, next) → Outside text next
unfolding bare_path
bare-outside text p start n next h e =
    let k = run in_bare_path (drop p text) in
    rw (path_of_is text p k (p + k) start n next e).5 at (outside-run in_bare_path refl text p h)

pub path-outside : (text : List ℕ) (at start n next : ℕ) → Outside text at → path_at text at ≡ Some (span start n, next) → Outside text next
unfolding path_at
path-outside text at start n next h e =
    let p = token_place text at in
    let o = outside-place text at h in
    split (eqb (byte_at text p) 34)
    (λ t. quoted_outside text (p + 1) start n next (quote_outside text p o t) (rw t at e))
    (λ t. bare-outside text p start n next o (rw t at e))

-- the bytes of a run stay, and so do a path's
run-bytes : (test : ℕ → Bool) → test 35 ≡ false → (text : List ℕ) (p : ℕ) → Outside text p
    → part p (run test (drop p text)) (blanked text) ≡ part p (run test (drop p text)) text
unfolding part
run-bytes test t text p h = rw (outside-drop text p h) (take-run-blanked test t (drop p text))

path_of_bytes : (test : ℕ → Bool) → test 35 ≡ false → (text : List ℕ) (p behind start n next : ℕ) → Outside text p
    → path_of text p (run test (drop p text)) behind ≡ Some (span start n, next) → part start n (blanked text) ≡ part start n text
path_of_bytes test t text p behind start n next h e =
    let told = path_of_is text p (run test (drop p text)) behind start n next e in
    rw (← told.4, ← told.3) (run-bytes test t text p h)

pub path_bytes : (text : List ℕ) (at start n next : ℕ) → Outside text at → path_at text at ≡ Some (span start n, next)
    → part start n (blanked text) ≡ part start n text
unfolding path_at bare_path
path_bytes text at start n next h e =
    let p = token_place text at in
    let o = outside-place text at h in
    let k = run in_path (drop (p + 1) text) in
    split (eqb (byte_at text p) 34)
    (λ t.
    path_of_bytes in_path refl text (p + 1) (p + 1 + k + 1) start n next (quote_outside text p o t)
    (quoted_is text (p + 1) start n next (rw t at e)).1)
    (λ t. path_of_bytes in_bare_path refl text p (p + run in_bare_path (drop p text)) start n next o (rw t at e))

-- ---- the comment rule, both ways at once

pub record SameTokens (text : List ℕ) (at : ℕ) : Type 0 where
  pub place : token_place (blanked text) at ≡ token_place text at
  pub line : line_of (blanked text) at ≡ line_of text at
  pub words : (word : List ℕ) → plain word ≡ true → word_at word (blanked text) at ≡ word_at word text at
  pub number : number_at (blanked text) at ≡ number_at text at
  pub size : size_at (blanked text) at ≡ size_at text at
  pub path : path_at (blanked text) at ≡ path_at text at

pub comments_first : (text : List ℕ) (at : ℕ) → Outside text at → SameTokens text at
comments_first text at h = record {
  place = place-blanked text at h;
  line = line-blanked text at;
  words = λ word e. word-blanked word text at e h;
  number = number-blanked text at h;
  size = size-blanked text at h;
  path = path-blanked text at h;
}
