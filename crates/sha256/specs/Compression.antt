-- FIPS 180-4, section 6.2.2: what one block does to the hash value.
use Rattle.std.specs.Prelude.{ℕ, zero, suc, ◌+◌, ◌-◌, List, [], ◌∷◌, ◌++◌, slice_index}
use Rattle.sha256.specs.Words.{add}
use Rattle.sha256.specs.Functions.{Ch, Maj, Σ0, Σ1, σ0, σ1}
use Rattle.sha256.specs.Constants.{K}

-- step 1, for t ≥ 16: the word W(t), from the words before it
unfoldable pub next_word : ℕ → List ℕ → ℕ
next_word t W = add (add (add (σ1 (slice_index W (t - 2))) (slice_index W (t - 7))) (σ0 (slice_index W (t - 15)))) (slice_index W (t - 16))

-- one word more behind the words W(0) to W(t - 1)
unfoldable pub extend : ℕ → List ℕ → List ℕ
extend t W = W ++ (next_word t W ∷ [])

-- step 1: the message schedule of a block M, its sixteen words and n more: W(0) to W(15 + n)
unfoldable pub schedule : ℕ → List ℕ → List ℕ
schedule zero M = M
schedule (suc n) M = extend (16 + n) (schedule n M)

-- step 2: the working variables a to h are a row of eight words
abbrev pub a : List ℕ → ℕ
a v = slice_index v 0

abbrev pub b : List ℕ → ℕ
b v = slice_index v 1

abbrev pub c : List ℕ → ℕ
c v = slice_index v 2

abbrev pub d : List ℕ → ℕ
d v = slice_index v 3

abbrev pub e : List ℕ → ℕ
e v = slice_index v 4

abbrev pub f : List ℕ → ℕ
f v = slice_index v 5

abbrev pub g : List ℕ → ℕ
g v = slice_index v 6

abbrev pub h : List ℕ → ℕ
h v = slice_index v 7

-- step 3: the two temporary words, for the constant k = K(t) and the schedule's word w = W(t)
unfoldable pub T1 : ℕ → ℕ → List ℕ → ℕ
T1 k w v = add (add (add (add (h v) (Σ1 (e v))) (Ch (e v) (f v) (g v))) k) w

unfoldable pub T2 : List ℕ → ℕ
T2 v = add (Σ0 (a v)) (Maj (a v) (b v) (c v))

-- step 3: one round
unfoldable pub round : ℕ → ℕ → List ℕ → List ℕ
round k w v = add (T1 k w v) (T2 v) ∷ a v ∷ b v ∷ c v ∷ add (d v) (T1 k w v) ∷ e v ∷ f v ∷ g v ∷ []

-- step 3: the rounds 0 to t - 1
unfoldable pub rounds : ℕ → List ℕ → List ℕ → List ℕ
rounds zero W v = v
rounds (suc t) W v = round (slice_index K t) (slice_index W t) (rounds t W v)

-- step 4: the working variables are added to the hash value before
unfoldable pub sums : List ℕ → List ℕ → List ℕ
sums v H =
    add (a v) (a H) ∷ add (b v) (b H) ∷ add (c v) (c H) ∷ add (d v) (d H) ∷
    add (e v) (e H) ∷ add (f v) (f H) ∷ add (g v) (g H) ∷ add (h v) (h H) ∷ []

-- H(i) of H(i - 1) and the block M(i)
unfoldable pub compress : List ℕ → List ℕ → List ℕ
compress H M = sums (rounds 64 (schedule 48 M) H) H
