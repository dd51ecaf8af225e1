-- What is printed reads back.
use Rattle.std.specs.Prelude.{true, false, Some, List, [], ◌∷◌, ◌≡◌, refl, ℕ, suc, ◌+◌, ◌*◌, ◌/◌, ◌%◌, ◌≤◌, ◌<◌, eqb, ltb, length}
use Rattle.std.proofs.Common.{arith, ltb-true, ltb-false, lt-ltb, le-leb, eq-eqb}
use Rattle.std.proofs.Math.Bool.{and-false}
use Rattle.std.proofs.lemmas.Bool.{lt-leb}
use Rattle.octets.specs.NumberLaws.{AllBytes}
use Rattle.octets.specs.Same.{same_bytes}
use Rattle.text.specs.Steps.{split}
use Rattle.replay_text.specs.Hex.{is_hex, worth, all_hex, size_of, bytes_of, hex_digit, hex_of, spelled}
use Rattle.replay_text.specs.HexLaws.{worth_figure, worth_letter, length-hex}

figure_hex : (b : ℕ) → 48 ≤ b → b ≤ 57 → is_hex b ≡ true
figure_hex b h k = rw (le-leb 48 b h, le-leb b 57 k)

letter_hex : (b : ℕ) → 97 ≤ b → b ≤ 102 → is_hex b ≡ true
letter_hex b h k = rw (le-leb 48 b (omega arith), lt-leb b 57 (omega arith), le-leb 97 b h, le-leb b 102 k)

-- a digit is one, and counts what it was made from
digit_reads : (n : ℕ) → n < 16 → (is_hex (hex_digit n) ≡ true) × (worth (hex_digit n) ≡ n)
unfolding hex_digit
digit_reads n h =
    split (ltb n 10)
    (λ e.
    let k : n < 10 = ltb-true n 10 e in
    let d : is_hex (48 + n) ≡ true = figure_hex (48 + n) (omega arith) (omega arith) in
    (rw e d, rw (e, worth_figure (48 + n) d (omega arith)) (omega arith)))
    (λ e.
    let k : 10 ≤ n = ltb-false n 10 e in
    let d : is_hex (87 + n % 16) ≡ true = letter_hex (87 + n % 16) (omega arith) (omega arith) in
    (rw e d, rw (e, worth_letter (87 + n % 16) d (omega arith)) (omega arith)))

pub reads-back : (l : List ℕ) → AllBytes l → bytes_of (hex_of l) ≡ l
unfolding bytes_of hex_of
reads-back [] h = refl
reads-back (b ∷ l) h =
    let e : b / 16 * 16 + b % 16 ≡ b = omega arith in
    rw ((digit_reads (b / 16) (omega (arith, h 0))).1, (digit_reads (b % 16) (omega arith)).1, e, reads-back l (λ i. h (suc i)))

-- also where there is none
pub spelled_back : (l : List ℕ) → AllBytes l → bytes_of (spelled l) ≡ l
unfolding bytes_of spelled
spelled_back [] h = refl
spelled_back (b ∷ l) h = reads-back (b ∷ l) h

digits-hex : (l : List ℕ) → AllBytes l → all_hex (hex_of l) ≡ true
unfolding all_hex hex_of
digits-hex [] h = refl
digits-hex (b ∷ l) h = rw ((digit_reads (b / 16) (omega (arith, h 0))).0, (digit_reads (b % 16) (omega arith)).0, digits-hex l (λ i. h (suc i)))

digits-size : (w : List ℕ) (n : ℕ) → same_bytes w (45 ∷ []) ≡ false → length w ≡ 2 * suc n → all_hex w ≡ true → size_of w ≡ Some (suc n)
unfolding size_of
digits-size w n s e a =
    let half : length w / 2 ≡ suc n = omega arith in
    rw (s, lt-ltb 0 (length w) (omega arith), eq-eqb (length w % 2) 0 (omega arith), a, half)

no_dash : (x y : ℕ) (w : List ℕ) → same_bytes (x ∷ y ∷ w) (45 ∷ []) ≡ false
unfolding same_bytes
no_dash x y w = and-false (eqb x 45)

-- and the size that is read is how many bytes there were
pub size_back : (l : List ℕ) → AllBytes l → size_of (spelled l) ≡ Some (length l)
unfolding size_of spelled hex_of same_bytes
size_back [] h = refl
size_back (b ∷ l) h =
    digits-size (hex_of (b ∷ l)) (length l) (no_dash (hex_digit (b / 16)) (hex_digit (b % 16)) (hex_of l)) (length-hex (b ∷ l)) (digits-hex (b ∷ l) h)
