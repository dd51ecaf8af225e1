-- Laws of `little` and `spelled`, over every width at once.
use Rattle.std.specs.Prelude.{List, [], ◌∷◌, ◌++◌, ◌≡◌, refl, ℕ, zero, suc, ◌+◌, ◌-◌, ◌*◌, ◌/◌, ◌%◌, ◌^◌, ◌≤◌, ◌<◌, length, take, drop, get_or, replicate}
use Rattle.std.proofs.Common.{sym, ◌∙◌, pow-suc, mul_assoc, add-zero, zero-add, suc-add, one-mul, mul-zero, div-one, not-suc-le-zero, le_of_suc-le-suc, arith, get_or-drop}
use Rattle.std.proofs.Math.Arith.{mod-mul}
use Rattle.std.proofs.Math.Nat.{one-le-pow, mod-one, pow-zero, div-div-eq-div-mul, pow-succ'}
use Rattle.octets.specs.Lists.{part, write_at}
use Rattle.octets.specs.Numbers.{little, spelled}
use Rattle.octets.specs.PartLaws.{length_part, part_out, take_part, drop-part}
use Rattle.octets.specs.WriteLaws.{over-split, write_at-append, write_at_def}

-- a row of bytes: every element, and the 0 that is read behind the end, is below 256
abbrev pub AllBytes : List ℕ → Type 0
AllBytes l = (i : ℕ) → get_or l i 0 < 256

-- ---- rows of bytes

pub bytes_take : (n : ℕ) (l : List ℕ) → AllBytes l → AllBytes (take n l)
bytes_take zero l h i = omega arith
bytes_take (suc n) [] h i = omega arith
bytes_take (suc n) (b ∷ l) h zero = h zero
bytes_take (suc n) (b ∷ l) h (suc i) = bytes_take n l (λ j. h (suc j)) i

pub bytes_drop : (n : ℕ) (l : List ℕ) → AllBytes l → AllBytes (drop n l)
bytes_drop n l h i = rw get_or-drop (h (n + i))

pub bytes-part : (at n : ℕ) (l : List ℕ) → AllBytes l → AllBytes (part at n l)
unfolding part
bytes-part at n l h = bytes_take n (drop at l) (bytes_drop at l h)

pub bytes-append : (l m : List ℕ) → AllBytes l → AllBytes m → AllBytes (l ++ m)
bytes-append [] m h k i = k i
bytes-append (b ∷ l) m h k zero = h zero
bytes-append (b ∷ l) m h k (suc i) = bytes-append l m (λ j. h (suc j)) k i

pub bytes-write_at : (at : ℕ) (new old : List ℕ) → AllBytes new → AllBytes old → AllBytes (write_at at new old)
bytes-write_at at new old h k =
    let d = drop at old in
    rw (write_at_def, over-split)
    (bytes-append (take at old) (take (length d) new ++ drop (length new) d) (bytes_take at old k)
    (bytes-append (take (length d) new) (drop (length new) d) (bytes_take (length d) new h) (bytes_drop (length new) d (bytes_drop at old k))))

pub bytes-spelled : (n v : ℕ) → AllBytes (spelled n v)
unfolding spelled
bytes-spelled zero v i = omega arith
bytes-spelled (suc n) v zero = omega arith
bytes-spelled (suc n) v (suc i) = bytes-spelled n (v / 256) i

-- ---- the number that a row spells

pub little-lt : (n : ℕ) (l : List ℕ) → AllBytes l → length l ≤ n → little l < 256 ^ n
unfolding little
little-lt n [] h e = one-le-pow n 256 (omega arith)
little-lt zero (b ∷ l) h e = absurd (not-suc-le-zero e)
little-lt (suc n) (b ∷ l) h e =
    let low : b < 256 = h zero in
    omega (arith, little-lt n l (λ i. h (suc i)) (le_of_suc-le-suc e))

-- a row is spelled by its first n and by the rest
pub little-split : (n : ℕ) (l : List ℕ) → little l ≡ little (take n l) + 256 ^ n * little (drop n l)
unfolding little
little-split zero l = rw (pow-zero, one-mul, zero-add)
little-split (suc n) [] = rw (mul-zero, add-zero)
little-split (suc n) (b ∷ l) = rw (little-split n l, pow-succ', mul_assoc) (omega arith)

pub little-append : (l m : List ℕ) → little (l ++ m) ≡ little l + 256 ^ length l * little m
unfolding little
little-append [] m = rw (pow-zero, one-mul, zero-add)
little-append (b ∷ l) m = rw (little-append l m, pow-succ', mul_assoc) (omega arith)

pub little-zeros : (l : List ℕ) (n : ℕ) → little (l ++ replicate n 0) ≡ little l
unfolding little
little-zeros l n = rw (little-append, none n, mul-zero, add-zero)
  where
    none : (n : ℕ) → little (replicate n 0) ≡ 0
    none zero = refl
    none (suc n) = rw (none n)

pub little-part-add : (at n m : ℕ) (l : List ℕ) → little (part at (n + m) l) ≡ little (part at n l) + 256 ^ n * little (part (at + n) m l)
little-part-add at n m l =
    let low : n ≤ n + m = omega arith in
    let rest : n + m - n ≡ m = omega arith in
    little-split n (part at (n + m) l) ∙ rw (take_part n at (n + m) l low, drop-part, rest)

pub little-part-one : (at : ℕ) (l : List ℕ) → little (part at 1 l) ≡ get_or l at 0
unfolding little part
little-part-one zero [] = refl
little-part-one zero (b ∷ l) = add-zero b
little-part-one (suc at) [] = refl
little-part-one (suc at) (b ∷ l) = little-part-one at l

pub little-part-lt : (at n : ℕ) (l : List ℕ) → AllBytes l → little (part at n l) < 256 ^ n
little-part-lt at n l h =
    let short : length (part at n l) ≤ n = rw length_part (omega arith) in
    little-lt n (part at n l) (bytes-part at n l h) short

-- behind the end stands nothing
pub little-part_out : (at n : ℕ) (l : List ℕ) → length l ≤ at → little (part at n l) ≡ 0
unfolding little
little-part_out at n l h = rw (part_out at n l h)

-- ---- the row that spells a number

pub length-spelled : (n v : ℕ) → length (spelled n v) ≡ n
unfolding spelled
length-spelled zero v = refl
length-spelled (suc n) v = rw (length-spelled n (v / 256))

-- the lowest digit and the others of what n + 1 digits hold
last_digit : (n v : ℕ) → v % 256 ^ suc n ≡ (v / 256 % 256 ^ n) * 256 + v % 256
last_digit n v = rw pow-suc (mod-mul v (one-le-pow n 256 (omega arith)) (omega arith))

pub little-spelled : (n v : ℕ) → little (spelled n v) ≡ v % 256 ^ n
unfolding little spelled
little-spelled zero v = rw pow-zero (sym (mod-one v))
little-spelled (suc n) v = rw (little-spelled n (v / 256), last_digit) (omega arith)

pub spelled-little : (l : List ℕ) → AllBytes l → spelled (length l) (little l) ≡ l
unfolding little spelled
spelled-little [] h = refl
spelled-little (b ∷ l) h =
    let low : b < 256 = h zero in
    let digit : (b + 256 * little l) % 256 ≡ b = omega arith in
    let others : (b + 256 * little l) / 256 ≡ little l = omega arith in
    rw (digit, others, spelled-little l (λ i. h (suc i)))

-- only what fits into n digits counts
pub spelled_mod : (n v : ℕ) → spelled n (v % 256 ^ n) ≡ spelled n v
unfolding spelled
spelled_mod zero v = refl
spelled_mod (suc n) v =
    let digit : (v / 256 % 256 ^ n * 256 + v % 256) % 256 ≡ v % 256 = omega arith in
    let others : (v / 256 % 256 ^ n * 256 + v % 256) / 256 ≡ v / 256 % 256 ^ n = omega arith in
    rw (last_digit, digit, others, spelled_mod n (v / 256))

pub spelled_same : (n v w : ℕ) → v % 256 ^ n ≡ w % 256 ^ n → spelled n v ≡ spelled n w
spelled_same n v w e = sym (spelled_mod n v) ∙ rw e (spelled_mod n w)

-- a number's n lowest digits, and the m above them
pub spelled-add : (n m v : ℕ) → spelled (n + m) v ≡ spelled n v ++ spelled m (v / 256 ^ n)
unfolding spelled
spelled-add zero m v = rw (zero-add, pow-zero, div-one)
spelled-add (suc n) m v = rw (suc-add, spelled-add n m (v / 256), div-div-eq-div-mul, pow-succ')

-- a number is written by its n lowest digits, and then by the m above them
pub write_at-spelled-add : (at n m v : ℕ) (l : List ℕ)
    → write_at (at + n) (spelled m (v / 256 ^ n)) (write_at at (spelled n v) l) ≡ write_at at (spelled (n + m) v) l
write_at-spelled-add at n m v l =
    rw spelled-add (rw length-spelled at (write_at-append at (spelled n v) (spelled m (v / 256 ^ n)) l))
