-- Numbers of two and of four bytes, byte by byte.
use Rattle.std.proofs.Common.{List, [], ◌∷◌, ◌≡◌, ◌≤◌, refl, ℕ, ◌+◌, ◌*◌, ◌/◌, ◌%◌, arith, length, get_or}
use Rattle.octets.specs.Numbers.{little, spelled}

pub spelled_2 : (v : ℕ) → spelled 2 v ≡ v % 256 ∷ v / 256 % 256 ∷ []
unfolding spelled
spelled_2 v = refl

pub spelled_4 : (v : ℕ) → spelled 4 v ≡ v % 256 ∷ v / 256 % 256 ∷ v / 65536 % 256 ∷ v / 16777216 % 256 ∷ []
unfolding spelled
spelled_4 v =
    let third : v / 256 / 256 ≡ v / 65536 = omega arith in
    let fourth : v / 256 / 256 / 256 ≡ v / 16777216 = omega arith in
    rw (fourth, third)

pub little_2 : (l : List ℕ) → length l ≤ 2 → get_or l 0 0 + get_or l 1 0 * 256 ≡ little l
unfolding little
little_2 [] h = refl
little_2 (a ∷ []) h = omega arith
little_2 (a ∷ b ∷ []) h = omega arith
little_2 (a ∷ b ∷ c ∷ l) h = absurd (omega arith)

pub little_4 : (l : List ℕ) → length l ≤ 4
    → get_or l 0 0 + get_or l 1 0 * 256 + get_or l 2 0 * 65536 + get_or l 3 0 * 16777216 ≡ little l
unfolding little
little_4 [] h = refl
little_4 (a ∷ []) h = omega arith
little_4 (a ∷ b ∷ []) h = omega arith
little_4 (a ∷ b ∷ c ∷ []) h = omega arith
little_4 (a ∷ b ∷ c ∷ d ∷ []) h = omega arith
little_4 (a ∷ b ∷ c ∷ d ∷ e ∷ l) h = absurd (omega arith)
