-- Operations that go bit by bit: two that agree on single bits agree on words. So the code's Ch and Maj are FIPS 180-4's.
use Rattle.std.proofs.Common.{◌≡◌, ℕ, zero, suc, ◌+◌, ◌-◌, ◌*◌, ◌/◌, ◌%◌, ◌^◌, ◌<◌, sym, refl, ◌∙◌, ap₂, mod-lt, pow-suc, div-add-mod', add-one, arith, lit<, shr_lt, bit_and, bit_xor}
use Rattle.std.proofs.Math.Arith.{lt-one}
use lib.Bits.{and_shr, xor_shr, and_mod, xor_mod}

-- a number is its upper bits and its lowest
from_halves : {a b : ℕ} → a / 2 ≡ b / 2 → a % 2 ≡ b % 2 → a ≡ b
from_halves {a} {b} p q = sym (div-add-mod' a 2) ∙ ap₂ (λ (x y : ℕ). x * 2 + y) p q ∙ div-add-mod' b 2

and_half : (a b : ℕ) → bit_and a b / 2 ≡ bit_and (a / 2) (b / 2)
and_half a b = and_shr a b 1

and_odd : (a b : ℕ) → bit_and a b % 2 ≡ bit_and (a % 2) (b % 2)
and_odd a b = and_mod a b 1

xor_half : (a b : ℕ) → bit_xor a b / 2 ≡ bit_xor (a / 2) (b / 2)
xor_half a b = xor_shr a b 1

xor_odd : (a b : ℕ) → bit_xor a b % 2 ≡ bit_xor (a % 2) (b % 2)
xor_odd a b = xor_mod a b 1

half_lt : (k : ℕ) {x : ℕ} → x < 2 ^ suc k → x / 2 < 2 ^ k
half_lt k {x} h = shr_lt k 1 (rw (add-one k) h)

not_half : (k : ℕ) {x : ℕ} → x < 2 ^ suc k → ((2 ^ suc k - 1) - x) / 2 ≡ (2 ^ k - 1) - x / 2
not_half k {x} h = omega (arith, pow-suc 2 k)

not_odd : (k : ℕ) {x : ℕ} → x < 2 ^ suc k → ((2 ^ suc k - 1) - x) % 2 ≡ 1 - x % 2
not_odd k {x} h = omega (arith, pow-suc 2 k)

-- F, of a width and three words, goes bit by bit: its upper bits come from the words' upper bits, its lowest, by f, from their lowest
record BitByBit (F : ℕ → ℕ → ℕ → ℕ → ℕ) (f : ℕ → ℕ → ℕ → ℕ) : Type 0 where
  upper : (k x y z : ℕ) → x < 2 ^ suc k → F (suc k) x y z / 2 ≡ F k (x / 2) (y / 2) (z / 2)
  lowest : (k x y z : ℕ) → x < 2 ^ suc k → F (suc k) x y z % 2 ≡ f (x % 2) (y % 2) (z % 2)

-- f and g agree on single bits
abbrev Agree : (f g : ℕ → ℕ → ℕ → ℕ) → Type 0
Agree f g =
    (f 0 0 0 ≡ g 0 0 0) × (f 0 0 1 ≡ g 0 0 1) × (f 0 1 0 ≡ g 0 1 0) × (f 0 1 1 ≡ g 0 1 1)
    × (f 1 0 0 ≡ g 1 0 0) × (f 1 0 1 ≡ g 1 0 1) × (f 1 1 0 ≡ g 1 1 0) × (f 1 1 1 ≡ g 1 1 1)

bit : (P : ℕ → Type 0) → P 0 → P 1 → (n : ℕ) → n < 2 → P n
bit P p q zero h = p
bit P p q (suc zero) h = q
bit P p q (suc (suc n)) h = absurd (let f : ⊥ = omega arith in f)

agree : (f g : ℕ → ℕ → ℕ → ℕ) → Agree f g → (x y z : ℕ) → x < 2 → y < 2 → z < 2 → f x y z ≡ g x y z
agree f g (a, b, c, d, e, i, j, k) x y z hx hy hz =
    bit (λ x. f x y z ≡ g x y z)
    (bit (λ y. f 0 y z ≡ g 0 y z) (bit (λ z. f 0 0 z ≡ g 0 0 z) a b z hz) (bit (λ z. f 0 1 z ≡ g 0 1 z) c d z hz) y hy)
    (bit (λ y. f 1 y z ≡ g 1 y z) (bit (λ z. f 1 0 z ≡ g 1 0 z) e i z hz) (bit (λ z. f 1 1 z ≡ g 1 1 z) j k z hz) y hy)
    x hx

-- two that go bit by bit and agree on single bits are equal
by_bits : {F G : ℕ → ℕ → ℕ → ℕ → ℕ} {f g : ℕ → ℕ → ℕ → ℕ} → BitByBit F f → BitByBit G g → F 0 0 0 0 ≡ G 0 0 0 0 → Agree f g
    → (k x y z : ℕ) → x < 2 ^ k → y < 2 ^ k → z < 2 ^ k → F k x y z ≡ G k x y z
by_bits p q e s zero x y z hx hy hz = rw (lt-one hx, lt-one hy, lt-one hz) e
by_bits {F} {G} {f} {g} p q e s (suc k) x y z hx hy hz =
    from_halves
    (p.upper k x y z hx ∙ by_bits p q e s k (x / 2) (y / 2) (z / 2) (half_lt k hx) (half_lt k hy) (half_lt k hz) ∙ sym (q.upper k x y z hx))
    (p.lowest k x y z hx ∙ agree f g s (x % 2) (y % 2) (z % 2) (mod-lt x two) (mod-lt y two) (mod-lt z two) ∙ sym (q.lowest k x y z hx))
  where
    two : 0 < 2
    two = lit< tt

-- Ch: y where x has the bit 1, else z; from where y and z differ
pub choice : (k x y z : ℕ) → x < 2 ^ k → y < 2 ^ k → z < 2 ^ k
    → bit_xor (bit_and (bit_xor y z) x) z ≡ bit_xor (bit_and x y) (bit_and ((2 ^ k - 1) - x) z)
choice =
    by_bits
    {F = λ k x y z. bit_xor (bit_and (bit_xor y z) x) z} {G = λ k x y z. bit_xor (bit_and x y) (bit_and ((2 ^ k - 1) - x) z)}
    {f = λ x y z. bit_xor (bit_and (bit_xor y z) x) z} {g = λ x y z. bit_xor (bit_and x y) (bit_and (1 - x) z)}
    (record { upper = λ k x y z h. simp (xor_half, and_half); lowest = λ k x y z h. simp (xor_odd, and_odd) })
    (record { upper = λ k x y z h. simp (xor_half, and_half, not_half k h); lowest = λ k x y z h. simp (xor_odd, and_odd, not_odd k h) })
    refl
    (refl, refl, refl, refl, refl, refl, refl, refl)

-- Maj: y, save where y differs from both others
pub most : (k x y z : ℕ) → x < 2 ^ k → y < 2 ^ k → z < 2 ^ k
    → bit_xor (bit_and (bit_xor x y) (bit_xor y z)) y ≡ bit_xor (bit_xor (bit_and x y) (bit_and x z)) (bit_and y z)
most =
    by_bits
    {F = λ k x y z. bit_xor (bit_and (bit_xor x y) (bit_xor y z)) y} {G = λ k x y z. bit_xor (bit_xor (bit_and x y) (bit_and x z)) (bit_and y z)}
    {f = λ x y z. bit_xor (bit_and (bit_xor x y) (bit_xor y z)) y} {g = λ x y z. bit_xor (bit_xor (bit_and x y) (bit_and x z)) (bit_and y z)}
    (record { upper = λ k x y z h. simp (xor_half, and_half); lowest = λ k x y z h. simp (xor_odd, and_odd) })
    (record { upper = λ k x y z h. simp (xor_half, and_half); lowest = λ k x y z h. simp (xor_odd, and_odd) })
    refl
    (refl, refl, refl, refl, refl, refl, refl, refl)

-- three words exclusive-ored from either end
pub xor_ends : (k x y z : ℕ) → x < 2 ^ k → y < 2 ^ k → z < 2 ^ k → bit_xor (bit_xor x y) z ≡ bit_xor (bit_xor z y) x
xor_ends =
    by_bits
    {F = λ k x y z. bit_xor (bit_xor x y) z} {G = λ k x y z. bit_xor (bit_xor z y) x}
    {f = λ x y z. bit_xor (bit_xor x y) z} {g = λ x y z. bit_xor (bit_xor z y) x}
    (record { upper = λ k x y z h. simp xor_half; lowest = λ k x y z h. simp xor_odd })
    (record { upper = λ k x y z h. simp xor_half; lowest = λ k x y z h. simp xor_odd })
    refl
    (refl, refl, refl, refl, refl, refl, refl, refl)
