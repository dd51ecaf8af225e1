-- Rotations of words: of an exclusive or, and of a rotation. So the code's nested sigmas are FIPS 180-4's.
use Rattle.std.proofs.Common.{◌≡◌, ℕ, ◌+◌, ◌-◌, ◌*◌, ◌/◌, ◌%◌, ◌^◌, ◌<◌, sym, ap, ◌∙◌, subst, ap₂, add-zero, add_assoc, mod-lt, mul_assoc, add-mul, add_comm, arith, pow_pos, pow-add, shr-shr, shr_lt, bit_or, bit_xor}
use Rattle.std.proofs.Math.Arith.{digits_lt}
use Rattle.std.proofs.Math.Nat.{mul-mod_left, mul-add-div_right, mul-add-mod_self_right}
use Rattle.std.proofs.Math.Pow.{shl-shr, mod-pow-add}
use lib.Bits.{or_shifted_r, xor_block, xor_shr, xor_mod, xor_lt, xor_comm}
use Rattle.sha256.specs.Words.{shl, shr, rotr}
use Rattle.sha256.proofs.Bits.{xor_ends}

abbrev Word : ℕ → Type 0
Word x = x < 2 ^ 32

-- a rotation by n leaves j bits on their side and brings n round
module _ (n j : ℕ) (w : n + j ≡ 32) where
  rest_lt : (x : ℕ) → Word x → x / 2 ^ n < 2 ^ j
  rest_lt x h = shr_lt j n (rw (add_comm j n, w) h)

  pub rotr-sum : (x : ℕ) → Word x → rotr n x ≡ (x % 2 ^ n) * 2 ^ j + x / 2 ^ n
  unfolding rotr shl shr
  rotr-sum x h =
      let e : 32 - n ≡ j = omega arith in
      let low : (x * 2 ^ j) % 2 ^ (n + j) ≡ (x % 2 ^ n) * 2 ^ j = mod-pow-add (x * 2 ^ j) n j ∙ rw (shl-shr x j, mul-mod_left x (2 ^ j), add-zero) in
      rw e (ap (bit_or (x / 2 ^ n)) (subst (λ (k : ℕ). (x * 2 ^ j) % 2 ^ k ≡ (x % 2 ^ n) * 2 ^ j) w low) ∙ or_shifted_r (x % 2 ^ n) j (x / 2 ^ n) (rest_lt x h))

  pub rotr-lt : (x : ℕ) → Word x → Word (rotr n x)
  rotr-lt x h =
      rw (rotr-sum x h)
      (subst (λ (k : ℕ). (x % 2 ^ n) * 2 ^ j + x / 2 ^ n < k) (sym (pow-add 2 n j) ∙ ap (λ (k : ℕ). 2 ^ k) w)
      (digits_lt (mod-lt x (pow_pos n)) (rest_lt x h)))

  pub rotr_xor : (x y : ℕ) → Word x → Word y → rotr n (bit_xor x y) ≡ bit_xor (rotr n x) (rotr n y)
  rotr_xor x y hx hy =
      rotr-sum (bit_xor x y) (xor_lt 32 x y hx hy)
      ∙ ap₂ (λ (a b : ℕ). a * 2 ^ j + b) (xor_mod x y n) (xor_shr x y n)
      ∙ sym (xor_block j (x % 2 ^ n) (y % 2 ^ n) (x / 2 ^ n) (y / 2 ^ n) (rest_lt x hx) (rest_lt y hy))
      ∙ sym (ap₂ bit_xor (rotr-sum x hx) (rotr-sum y hy))

-- by n and then by m
module _ (n m i : ℕ) (w : n + m + i ≡ 32) where
  pub rotr-rotr : (x : ℕ) → Word x → rotr m (rotr n x) ≡ rotr (n + m) x
  rotr-rotr x h =
      let wn : n + (i + m) ≡ 32 = omega arith in
      let wm : m + (n + i) ≡ 32 = omega arith in
      let y : ℕ = x / 2 ^ n in
      let r : ℕ = x % 2 ^ n in
      let z : rotr n x ≡ r * 2 ^ i * 2 ^ m + y = rotr-sum n (i + m) wn x h ∙ ap (λ (k : ℕ). k + y) (ap (λ (k : ℕ). r * k) (pow-add 2 i m) ∙ sym (mul_assoc r (2 ^ i) (2 ^ m))) in
      rotr-sum m (n + i) wm (rotr n x) (rotr-lt n (i + m) wn x h)
      ∙ ap (λ (k : ℕ). (k % 2 ^ m) * 2 ^ (n + i) + k / 2 ^ m) z
      ∙ ap₂ (λ (a b : ℕ). a * 2 ^ (n + i) + b) (mul-add-mod_self_right (r * 2 ^ i) (2 ^ m) y) (mul-add-div_right (pow_pos m) (r * 2 ^ i) y)
      ∙ ap (λ (k : ℕ). y % 2 ^ m * k + (r * 2 ^ i + y / 2 ^ m)) (pow-add 2 n i)
      ∙ sym (add_assoc (y % 2 ^ m * (2 ^ n * 2 ^ i)) (r * 2 ^ i) (y / 2 ^ m))
      ∙ ap (λ (k : ℕ). k + r * 2 ^ i + y / 2 ^ m) (sym (mul_assoc (y % 2 ^ m) (2 ^ n) (2 ^ i)))
      ∙ ap (λ (k : ℕ). k + y / 2 ^ m) (sym (add-mul (y % 2 ^ m * 2 ^ n) r (2 ^ i)))
      ∙ sym (rotr-sum (n + m) i w x h ∙ ap₂ (λ (a b : ℕ). a * 2 ^ i + b) (ap (λ (k : ℕ). x % 2 ^ k) (add_comm n m) ∙ mod-pow-add x m n) (sym (shr-shr x n m)))

  -- the two rotations of a small sigma
  pub nested : (x : ℕ) → Word x → rotr m (bit_xor (rotr n x) x) ≡ bit_xor (rotr m x) (rotr (n + m) x)
  nested x h =
      let wn : n + (m + i) ≡ 32 = omega arith in
      let wm : m + (n + i) ≡ 32 = omega arith in
      rotr_xor m (n + i) wm (rotr n x) x (rotr-lt n (m + i) wn x h) h
      ∙ ap (λ (k : ℕ). bit_xor k (rotr m x)) (rotr-rotr x h)
      ∙ xor_comm (rotr (n + m) x) (rotr m x)

-- the three of a capital sigma
module _ (p n m i : ℕ) (w : p + n + m + i ≡ 32) where
  pub nested_twice : (x : ℕ) → Word x
      → rotr m (bit_xor (rotr n (bit_xor (rotr p x) x)) x) ≡ bit_xor (bit_xor (rotr m x) (rotr (n + m) x)) (rotr (p + n + m) x)
  nested_twice x h =
      let wp : p + n + (m + i) ≡ 32 = omega arith in
      let wn : n + m + (p + i) ≡ 32 = omega arith in
      let wpn : p + n + m + i ≡ 32 = w in
      let wm : m + (p + n + i) ≡ 32 = omega arith in
      let hn : Word (rotr n x) = rotr-lt n (m + (p + i)) (omega arith) x h in
      let hpn : Word (rotr (p + n) x) = rotr-lt (p + n) (m + i) wp x h in
      let A : ℕ = rotr m x in
      let B : ℕ = rotr (n + m) x in
      let C : ℕ = rotr (p + n + m) x in
      ap (λ (k : ℕ). rotr m (bit_xor k x)) (nested p n (m + i) wp x h)
      ∙ rotr_xor m (p + n + i) wm (bit_xor (rotr n x) (rotr (p + n) x)) x (xor_lt 32 (rotr n x) (rotr (p + n) x) hn hpn) h
      ∙ ap (λ (k : ℕ). bit_xor k A) (rotr_xor m (p + n + i) wm (rotr n x) (rotr (p + n) x) hn hpn ∙ ap₂ bit_xor (rotr-rotr n m (p + i) wn x h) (rotr-rotr (p + n) m i wpn x h) ∙ xor_comm B C)
      ∙ xor_ends 32 C B A (rotr-lt (p + n + m) i w x h) (rotr-lt (n + m) (p + i) wn x h) (rotr-lt m (p + n + i) wm x h)
