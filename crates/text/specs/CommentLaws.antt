-- Laws of blanked comments: what stays (length, lines, every byte outside comments), and which places are outside comments.
use Rattle.std.specs.Prelude.{Bool, true, false, cond, not, List, [], ◌∷◌, ◌++◌, ◌⊎◌, ◌≡◌, refl, ℕ, zero, suc, ◌+◌, ◌≤◌, eqb, length, take, drop}
use Rattle.std.proofs.Common.{inl, inr, ⊎_elim, sym, ◌∙◌, suc-le-suc, add-zero, zero-add, suc-add, arith, eqb-true, ne_eqb, length-drop, drop_of_length-le, get_or-drop, take-add}
use Rattle.std.proofs.lemmas.Bool.{false≢true, eqb-false}
use Rattle.octets.specs.Lists.{part}
use Rattle.text.specs.Bytes.{byte_at}
use Rattle.text.specs.Gaps.{gap_from, token_place, line_feeds, line_of}
use Rattle.text.specs.Comments.{blanked_from, blanked, comment_behind, Outside}
use Rattle.text.specs.GapLaws.{gap_shift}
use Rattle.text.specs.Steps.{split, gap_on, comment_on, gap_cons}
use Rattle.text.specs.Tokens.{run}

-- ---- one byte on

blanked-nil : (comment : Bool) → blanked_from comment [] ≡ []
unfolding blanked_from
blanked-nil comment = refl

-- a byte becomes a space where a comment goes on behind it
blanked-cons : (comment : Bool) (b : ℕ) (l : List ℕ) → blanked_from comment (b ∷ l) ≡ cond (comment_on comment b) 32 b ∷ blanked_from (comment_on comment b) l
unfolding blanked_from
blanked-cons true b l = split (eqb b 10) (λ e. rw e) (λ e. rw e)
blanked-cons false b l = split (eqb b 35) (λ e. rw (eqb-true b 35 e)) (λ e. rw e)

pub behind-nil : (comment : Bool) → comment_behind comment [] ≡ comment
unfolding comment_behind
behind-nil comment = refl

pub behind-cons : (comment : Bool) (b : ℕ) (l : List ℕ) → comment_behind comment (b ∷ l) ≡ comment_behind (comment_on comment b) l
unfolding comment_behind
behind-cons true b l = refl
behind-cons false b l = split (eqb b 35) (λ e. rw (eqb-true b 35 e)) (λ e. rw e)

-- ---- what stays

pub length-blanked : (comment : Bool) (l : List ℕ) → length (blanked_from comment l) ≡ length l
length-blanked comment [] = rw blanked-nil
length-blanked comment (b ∷ l) = rw (blanked-cons, length-blanked (comment_on comment b) l)

pub take-blanked : (n : ℕ) (comment : Bool) (l : List ℕ) → take n (blanked_from comment l) ≡ blanked_from comment (take n l)
take-blanked zero comment l = sym (blanked-nil comment)
take-blanked (suc n) comment [] = rw blanked-nil
take-blanked (suc n) comment (b ∷ l) = rw (blanked-cons comment b l, blanked-cons comment b (take n l), take-blanked n (comment_on comment b) l)

pub drop-blanked : (n : ℕ) (comment : Bool) (l : List ℕ) → drop n (blanked_from comment l) ≡ blanked_from (comment_behind comment (take n l)) (drop n l)
drop-blanked zero comment l = rw behind-nil
drop-blanked (suc n) comment [] = rw (blanked-nil comment, blanked-nil)
drop-blanked (suc n) comment (b ∷ l) = rw (blanked-cons, behind-cons) (drop-blanked n (comment_on comment b) l)

feeds_blanked : (comment : Bool) (l : List ℕ) → line_feeds (blanked_from comment l) ≡ line_feeds l
unfolding blanked_from line_feeds
feeds_blanked comment [] = refl
feeds_blanked true (b ∷ l) = split (eqb b 10) (λ e. rw (eqb-true b 10 e, feeds_blanked false l)) (λ e. rw (e, feeds_blanked true l))
feeds_blanked false (b ∷ l) =
    split (eqb b 35) (λ e. rw (eqb-true b 35 e, feeds_blanked true l)) (λ e. rw (e, feeds_blanked false l))

-- every place keeps its line
pub line-blanked : (text : List ℕ) (at : ℕ) → line_of (blanked text) at ≡ line_of text at
unfolding line_of blanked
line-blanked text at = rw (take-blanked, feeds_blanked)

-- no '#' is left
no_comment : (comment : Bool) (l : List ℕ) (i : ℕ) → eqb (byte_at (blanked_from comment l) i) 35 ≡ false
unfolding blanked_from
no_comment comment [] i = refl
no_comment true (b ∷ l) zero = split (eqb b 10) (λ e. rw (eqb-true b 10 e)) (λ e. rw e)
no_comment false (b ∷ l) zero = split (eqb b 35) (λ e. rw (eqb-true b 35 e)) (λ e. rw (e, e))
no_comment true (b ∷ l) (suc i) = split (eqb b 10) (λ e. rw e (no_comment false l i)) (λ e. rw e (no_comment true l i))
no_comment false (b ∷ l) (suc i) = split (eqb b 35) (λ e. rw e (no_comment true l i)) (λ e. rw e (no_comment false l i))

pub no_comment_left : (text : List ℕ) (i : ℕ) → byte_at (blanked text) i ≡ 35 → ⊥
unfolding blanked
no_comment_left text i = eqb-false (byte_at (blanked_from false text) i) 35 (no_comment false text i)

-- ---- places outside comments

pub outside-start : (text : List ℕ) → Outside text 0
unfolding comment_behind
outside-start text = inl refl

-- from there on, the rest is blanked as a text of its own
pub outside-drop : (text : List ℕ) (at : ℕ) → Outside text at → drop at (blanked text) ≡ blanked_from false (drop at text)
unfolding blanked blanked_from
outside-drop text at (inl e) = drop-blanked at false text ∙ rw e
outside-drop text at (inr h) =
    let k : length (blanked_from false text) ≤ at = rw length-blanked h in
    rw (drop_of_length-le text h, drop_of_length-le (blanked_from false text) k)

behind-append : (comment : Bool) (l m : List ℕ) → comment_behind comment (l ++ m) ≡ comment_behind (comment_behind comment l) m
unfolding comment_behind
behind-append comment [] m = refl
behind-append true (b ∷ l) m = behind-append (not (eqb b 10)) l m
behind-append false (b ∷ l) m = behind-append (eqb b 35) l m

-- n bytes on, if no comment goes on behind them, or the text ends among them
pub outside-add : (text : List ℕ) (at n : ℕ) → Outside text at → Outside (drop at text) n → Outside text (at + n)
outside-add text at n (inr h) k = inr (omega arith)
outside-add text at n (inl e) (inr k) = inr (omega (arith, length-drop at text))
outside-add text at n (inl e) (inl f) = inl (rw (take-add, behind-append, e) f)

-- the same for bytes that are all there
pub outside-bytes : (text : List ℕ) (p : ℕ) (row : List ℕ) → Outside text p → part p (length row) text ≡ row → comment_behind false row ≡ false
    → Outside text (p + length row)
unfolding part
outside-bytes text p row h e f = outside-add text p (length row) h (inl (rw e f))

pub byte-drop : (text : List ℕ) (p : ℕ) → byte_at text p ≡ byte_at (drop p text) 0
byte-drop text p = sym (rw (add-zero p) at (get_or-drop p text 0 256))

one_calm : (l : List ℕ) → eqb (byte_at l 0) 35 ≡ false → comment_behind false (take 1 l) ≡ false
unfolding comment_behind
one_calm [] e = refl
one_calm (b ∷ l) e = e

-- a byte that begins no comment
pub outside-byte : (text : List ℕ) (p : ℕ) → Outside text p → eqb (byte_at text p) 35 ≡ false → Outside text (p + 1)
outside-byte text p h e = outside-add text p 1 h (inl (one_calm (drop p text) (rw (byte-drop text p) at e)))

-- a run of bytes that begin no comment
run_calm : (test : ℕ → Bool) → test 35 ≡ false → (l : List ℕ) → comment_behind false (take (run test l) l) ≡ false
unfolding run
run_calm test t [] = behind-nil false
run_calm test t (b ∷ l) =
    split (test b)
    (λ e.
    let other : eqb b 35 ≡ false = ne_eqb b 35 (λ q. false≢true (sym t ∙ (rw q at e))) in
    rw (e, behind-cons false b (take (run test l) l), other) (run_calm test t l))
    (λ e. rw e (behind-nil false))

pub outside-run : (test : ℕ → Bool) → test 35 ≡ false → (text : List ℕ) (p : ℕ) → Outside text p → Outside text (p + run test (drop p text))
outside-run test t text p h = outside-add text p (run test (drop p text)) h (inl (run_calm test t (drop p text)))

-- ---- gaps

gap_blanked : (comment : Bool) (l : List ℕ) (i : ℕ) → gap_from false (blanked_from comment l) i ≡ gap_from comment l i
unfolding blanked_from gap_from
gap_blanked comment [] i = refl
gap_blanked true (b ∷ l) i =
    split (eqb b 10) (λ e. rw (eqb-true b 10 e) (gap_blanked false l (suc i))) (λ e. rw e (gap_blanked true l (suc i)))
gap_blanked false (b ∷ l) i =
    split (eqb b 35) (λ e. rw (eqb-true b 35 e) (gap_blanked true l (suc i))) (λ e. rw (e, e, gap_blanked false l (suc i)))

off : (comment : Bool) (b : ℕ) → gap_on comment b ≡ false → comment ≡ false
off true b e = absurd (false≢true (sym e))
off false b e = refl

gap_one : (comment : Bool) (l : List ℕ) → gap_from comment l 1 ≡ suc (gap_from comment l 0)
gap_one comment l = gap_shift comment l 1 ∙ rw (suc-add, zero-add)

-- where a gap ends there is no comment, or the text has ended
gap_outside : (comment : Bool) (l : List ℕ) → (comment_behind comment (take (gap_from comment l 0) l) ≡ false) ⊎ (length l ≤ gap_from comment l 0)
gap_outside comment [] = inr (omega arith)
gap_outside comment (b ∷ l) =
    split (gap_on comment b)
    (λ e.
    rw (gap_cons comment b l 0, e, gap_one (comment_on comment b) l, behind-cons)
    (⊎_elim inl (λ h. inr (suc-le-suc h)) (gap_outside (comment_on comment b) l)))
    (λ e. rw (gap_cons comment b l 0, e, behind-nil) (inl (off comment b e)))

-- a token's place is the same, and outside comments
pub place-blanked : (text : List ℕ) (at : ℕ) → Outside text at → token_place (blanked text) at ≡ token_place text at
unfolding token_place
place-blanked text at h = rw (outside-drop text at h) (gap_blanked false (drop at text) at)

pub outside-place : (text : List ℕ) (at : ℕ) → Outside text at → Outside text (token_place text at)
unfolding token_place
outside-place text at h = rw (gap_shift false (drop at text) at) (outside-add text at (gap_from false (drop at text) 0) h (gap_outside false (drop at text)))
