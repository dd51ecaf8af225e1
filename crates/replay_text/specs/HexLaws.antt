-- Laws of hex digits: digit by digit and byte by byte.
use Rattle.std.specs.Prelude.{Bool, true, false, cond, ◌&&◌, ◌||◌, List, [], ◌∷◌, ◌++◌, ◌≡◌, refl, ℕ, zero, suc, ◌+◌, ◌-◌, ◌*◌, ◌/◌, ◌%◌, ◌≤◌, ◌<◌, eqb, leb, length, take, get_or}
use Rattle.std.proofs.Common.{sym, ◌∙◌, le-leb, arith, lt-ltb, le-ltb, leb-true}
use Rattle.std.proofs.lemmas.Bool.{false≢true, lt-leb}
use Rattle.std.proofs.lemmas.List.{take_more}
use Rattle.std.specs.List.{list_all}
use Rattle.text.specs.Steps.{split}
use Rattle.replay_text.specs.Hex.{is_hex, worth, all_hex, bytes_of, hex_digit, hex_of, spelled}

-- ---- one digit

pub worth-none : (b : ℕ) → is_hex b ≡ false → worth b ≡ 0
unfolding worth
worth-none b e = rw e

pub worth_figure : (b : ℕ) → is_hex b ≡ true → b < 97 → worth b ≡ b - 48
unfolding worth
worth_figure b e h = rw (e, lt-ltb b 97 h)

pub worth_letter : (b : ℕ) → is_hex b ≡ true → 97 ≤ b → worth b ≡ b - 87
unfolding worth
worth_letter b e h = rw (e, le-ltb b 97 h)

pub figure_worth : (b : ℕ) → 48 ≤ b → b < 58 → b - 48 ≡ worth b
figure_worth b h k = sym (worth_figure b (rw (le-leb 48 b h, le-leb b 57 (omega arith))) (omega arith))

pub letter_worth : (b : ℕ) → 97 ≤ b → b < 103 → b - 97 + 10 ≡ worth b
letter_worth b h k =
    let digit : b - 97 + 10 ≡ b - 87 = omega arith in
    let hex : is_hex b ≡ true = rw (le-leb 48 b (omega arith), lt-leb b 57 (omega arith), le-leb 97 b h, le-leb b 102 (omega arith)) in
    digit ∙ sym (worth_letter b hex h)

pub below_worth : (b : ℕ) → b < 48 → 0 ≡ worth b
below_worth b h = sym (worth-none b (rw (lt-leb 48 b h, lt-leb 97 b (omega arith))))

pub between_worth : (b : ℕ) → 58 ≤ b → b < 97 → 0 ≡ worth b
between_worth b h k = sym (worth-none b (rw (le-leb 48 b (omega arith), lt-leb b 57 h, lt-leb 97 b k)))

pub above_worth : (b : ℕ) → 103 ≤ b → 0 ≡ worth b
above_worth b h = sym (worth-none b (rw (le-leb 48 b (omega arith), lt-leb b 57 (omega arith), le-leb 97 b (omega arith), lt-leb b 102 h)))

-- one of two ranges
one_of : (p q r s : Bool) {P : Type 0} → (p && q) || (r && s) ≡ true → (p ≡ true → q ≡ true → P) → (r ≡ true → s ≡ true → P) → P
one_of true true r s e f g = f refl refl
one_of true false true true e f g = g refl refl
one_of true false true false e f g = absurd (false≢true e)
one_of true false false s e f g = absurd (false≢true e)
one_of false q true true e f g = g refl refl
one_of false q true false e f g = absurd (false≢true e)
one_of false q false s e f g = absurd (false≢true e)

hex_cases : (b : ℕ) {P : Type 0} → is_hex b ≡ true → (48 ≤ b → b ≤ 57 → P) → (97 ≤ b → b ≤ 102 → P) → P
hex_cases b e f g =
    one_of (leb 48 b) (leb b 57) (leb 97 b) (leb b 102) e
    (λ x y. f (leb-true 48 b x) (leb-true b 57 y)) (λ x y. g (leb-true 97 b x) (leb-true b 102 y))

pub hex-low : (b : ℕ) → is_hex b ≡ true → 48 ≤ b
hex-low b e = hex_cases b e (λ x y. x) (λ x y. omega arith)

pub worth-small : (b : ℕ) → worth b ≤ 15
worth-small b =
    split (is_hex b)
    (λ e. hex_cases b e (λ x y. rw (worth_figure b e (omega arith)) (omega arith)) (λ x y. rw (worth_letter b e x) (omega arith)))
    (λ e. rw (worth-none b e) (omega arith))

-- ---- read

pub length-bytes : (l : List ℕ) → length (bytes_of l) ≡ length l / 2
unfolding bytes_of
length-bytes [] = refl
length-bytes (a ∷ []) = refl
length-bytes (a ∷ b ∷ l) = rw (length-bytes l) (omega arith)

pub byte_at : (l : List ℕ) (i : ℕ) → i < length l / 2 → get_or (bytes_of l) i 0 ≡ worth (get_or l (2 * i) 0) * 16 + worth (get_or l (2 * i + 1) 0)
unfolding bytes_of
byte_at [] i h = absurd (omega arith)
byte_at (a ∷ []) i h = absurd (omega arith)
byte_at (a ∷ b ∷ l) zero h = refl
byte_at (a ∷ b ∷ l) (suc i) h =
    let e : 2 * suc i ≡ suc (suc (2 * i)) = omega arith in
    let f : 2 * suc i + 1 ≡ suc (suc (2 * i + 1)) = omega arith in
    rw (f, e) (byte_at l i (omega arith))

pub first_small : (l : List ℕ) → get_or (bytes_of l) 0 0 ≤ 255
unfolding bytes_of
first_small [] = omega arith
first_small (a ∷ []) = omega arith
first_small (a ∷ b ∷ l) = omega (arith, worth-small a, worth-small b)

-- ---- a row

pub all_of : (l : List ℕ) → list_all is_hex l ≡ all_hex l
unfolding all_hex
all_of [] = refl
all_of (b ∷ l) = rw (all_of l)

-- ---- printed

pub length-hex : (l : List ℕ) → length (hex_of l) ≡ 2 * length l
unfolding hex_of
length-hex [] = refl
length-hex (b ∷ l) = rw (length-hex l) (omega arith)

pub digit_at : (l : List ℕ) (i : ℕ) → i < 2 * length l → get_or (hex_of l) i 0 ≡ hex_digit (cond (eqb (i % 2) 0) (get_or l (i / 2) 0 / 16) (get_or l (i / 2) 0 % 16))
unfolding hex_of
digit_at [] i h = absurd (omega arith)
digit_at (b ∷ l) zero h = refl
digit_at (b ∷ l) (suc zero) h = refl
digit_at (b ∷ l) (suc (suc i)) h =
    let q : suc (suc i) / 2 ≡ suc (i / 2) = omega arith in
    let r : suc (suc i) % 2 ≡ i % 2 = omega arith in
    rw (q, r) (digit_at l i (omega arith))

hex-append : (l m : List ℕ) → hex_of (l ++ m) ≡ hex_of l ++ hex_of m
unfolding hex_of
hex-append [] m = refl
hex-append (b ∷ l) m = rw (hex-append l m)

pub hex-more : (l : List ℕ) (i : ℕ) → i < length l
    → hex_of (take i l) ++ (hex_digit (get_or l i 0 / 16) ∷ hex_digit (get_or l i 0 % 16) ∷ []) ≡ hex_of (take (i + 1) l)
unfolding hex_of
hex-more l i h = rw (take_more l i 0 h, hex-append)

pub spelled-some : (l : List ℕ) → (length l ≡ 0 → ⊥) → hex_of l ≡ spelled l
unfolding spelled
spelled-some [] h = absurd (h refl)
spelled-some (b ∷ l) h = refl

pub spelled_none : (l : List ℕ) → length l ≡ 0 → 45 ∷ [] ≡ spelled l
unfolding spelled
spelled_none [] h = refl
spelled_none (b ∷ l) h = absurd (omega arith)

-- the two digits of byte i
pub higher_at : (l : List ℕ) (i : ℕ) → i < length l → get_or (hex_of l) (2 * i) 0 ≡ hex_digit (get_or l i 0 / 16)
higher_at l i h =
    let q : 2 * i / 2 ≡ i = omega arith in
    let r : 2 * i % 2 ≡ 0 = omega arith in
    rw (q, r) at (digit_at l (2 * i) (omega arith))

pub lower_at : (l : List ℕ) (i : ℕ) → i < length l → get_or (hex_of l) (2 * i + 1) 0 ≡ hex_digit (get_or l i 0 % 16)
lower_at l i h =
    let q : (2 * i + 1) / 2 ≡ i = omega arith in
    let r : (2 * i + 1) % 2 ≡ 1 = omega arith in
    rw (q, r) at (digit_at l (2 * i + 1) (omega arith))
