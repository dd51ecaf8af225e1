-- What follows from the definitions: that padding makes whole blocks, and that sixteen words at a time are enough of the schedule.
use Rattle.std.specs.Prelude.{◌≡◌, ℕ, zero, suc, ◌+◌, ◌-◌, ◌*◌, ◌%◌, ◌<◌, ◌≤◌, List, [], ◌∷◌, ◌++◌, length, take, drop, slice_index, refl}
use Rattle.std.proofs.Common.{sym, ap, ◌∙◌, add-zero, add-suc, add_comm, add-one, arith, length-append, drop-drop, get_or-drop, take-suc}
use Rattle.std.proofs.Math.ListN.{get_or-append}
use Rattle.std.proofs.lemmas.List.{length-replicate, drop-append-le}
use Rattle.sha256.specs.Words.{bytes_of}
use Rattle.sha256.specs.Constants.{K}
use Rattle.sha256.specs.Padding.{zeros, length_field, ending, padded}
use Rattle.sha256.specs.Compression.{next_word, extend, schedule, rounds}
use Rattle.sha256.specs.Digest.{joined, digest}
use Rattle.sha256.specs.Window.{slide, step, steps}
use Rattle.sha256.specs.declared.rounds.Turn.{Turn}

-- 5.1.1, in its own words: of a message of l = 8 n bits, the bits 0 behind the bit 1 (seven of them in the byte 0x80) are k, the smallest
-- number for which l + 1 + k is 448 modulo 512
pub padding_rule : (n : ℕ) → ((8 * n + 1 + (7 + 8 * zeros n)) % 512 ≡ 448) × ((k : ℕ) → (8 * n + 1 + k) % 512 ≡ 448 → 7 + 8 * zeros n ≤ k)
unfolding zeros
padding_rule n = (omega arith, λ k h. omega arith)

-- the same in bytes: eight are left for the length
pub padding_in_bytes : (n : ℕ) → ((n + 1 + zeros n) % 64 ≡ 56) × (zeros n < 64)
unfolding zeros
padding_in_bytes n = (omega arith, omega arith)

pub length-padded : (m : List ℕ) → length (padded m) ≡ length m + 1 + zeros (length m) + 8
unfolding padded ending length_field bytes_of
length-padded m = simp (length-append, length-replicate) (omega arith)

pub length-digest : (m : List ℕ) → length (digest m) ≡ 32
unfolding digest joined bytes_of
length-digest m = refl

-- ---- the schedule

pub length-schedule : (n : ℕ) (M : List ℕ) → length M ≡ 16 → length (schedule n M) ≡ 16 + n
unfolding schedule extend
length-schedule zero M e = e
length-schedule (suc n) M e = simp (length-append, length-schedule n M e) (omega arith)

schedule-suc : (n : ℕ) (M : List ℕ) → schedule (suc n) M ≡ extend (16 + n) (schedule n M)
unfolding schedule
schedule-suc n M = refl

K-long : (t : ℕ) → t < 64 → t < length K
unfolding K
K-long t h = h

-- more words leave those before them as they are
more-words : (k n : ℕ) (M : List ℕ) → length M ≡ 16 → (i : ℕ) → i < 16 + n → slice_index (schedule (n + k) M) i ≡ slice_index (schedule n M) i
unfolding schedule extend
more-words zero n M e i h = rw (add-zero n)
more-words (suc k) n M e i h =
    let t : i < length (schedule (n + k) M) = rw (length-schedule (n + k) M e) (omega arith) in
    rw (add-suc n k, get_or-append (schedule (n + k) M) (next_word (16 + (n + k)) (schedule (n + k) M) ∷ []) 0 i t) (more-words k n M e i h)

-- the word of round t, of the schedule as far as round t needs it, is that of the whole schedule
word_of_round : (t : ℕ) (M : List ℕ) → length M ≡ 16 → t < 64 → slice_index (schedule t M) t ≡ slice_index (schedule 48 M) t
word_of_round t M e h =
    sym (more-words 48 t M e t (omega arith)) ∙ ap (λ (n : ℕ). slice_index (schedule n M) t) (add_comm t 48) ∙ more-words t 48 M e t (omega arith)

-- ---- the window

next_of_window : (t : ℕ) (W : List ℕ) → next_word 16 (drop t W) ≡ next_word (16 + t) W
unfolding next_word
next_of_window t W =
    let a : (16 + t) - 2 ≡ t + 14 = omega arith in
    let b : (16 + t) - 7 ≡ t + 9 = omega arith in
    let c : (16 + t) - 15 ≡ t + 1 = omega arith in
    let d : (16 + t) - 16 ≡ t + 0 = omega arith in
    rw (a, b, c, d, get_or-drop t W 14 0, get_or-drop t W 9 0, get_or-drop t W 1 0, get_or-drop t W 0 0)

slide_window : (t : ℕ) (W : List ℕ) → length W ≡ 16 + t → slide (drop t W) ≡ drop (suc t) (extend (16 + t) W)
unfolding slide extend
slide_window t W e =
    let h : suc t ≤ length W = rw e (omega arith) in
    rw (drop-drop 1 t W, add-one t, next_of_window t W, drop-append-le (suc t) W (next_word (16 + t) W ∷ []) h)

-- ---- the rounds

steps-append : (ks : List ℕ) (k : ℕ) (x : Turn) → steps (ks ++ (k ∷ [])) x ≡ step k (steps ks x)
unfolding steps
steps-append [] k x = refl
steps-append (j ∷ ks) k x = steps-append ks k (step j x)

-- after t rounds on a block: FIPS 180-4's working variables, and the sixteen words of the schedule from W(t) on
Reached : ℕ → List ℕ → List ℕ → Turn
Reached t H M = record { state = rounds t (schedule 48 M) H; window = drop t (schedule t M) }

begun : (H M : List ℕ) → record { state = H; window = M } ≡ Reached 0 H M
unfolding Reached rounds schedule
begun H M = refl

next : (t : ℕ) → t < 64 → (H M : List ℕ) → length M ≡ 16 → step (slice_index K t) (Reached t H M) ≡ Reached (suc t) H M
unfolding Reached step rounds
next t h H M e =
    let later : schedule (suc t) M ≡ extend (16 + t) (schedule t M) = schedule-suc t M in
    rw (get_or-drop t (schedule t M) 0 0, add-zero t, word_of_round t M e h, slide_window t (schedule t M) (length-schedule t M e), later)

after : (t : ℕ) → t ≤ 64 → (H M : List ℕ) → length M ≡ 16 → steps (take t K) (record { state = H; window = M }) ≡ Reached t H M
unfolding steps
after zero h H M e = begun H M
after (suc t) h H M e =
    let k : t < length K = K-long t h in
    rw (take-suc K t 0 k, steps-append (take t K) (slice_index K t) (record { state = H; window = M }), after t (omega arith) H M e) (next t h H M e)

-- all sixty-four
pub sixteen_at-a_time : (H M : List ℕ) → length M ≡ 16 → (steps K (record { state = H; window = M })).state ≡ rounds 64 (schedule 48 M) H
unfolding Reached K
sixteen_at-a_time H M e = ap (λ (x : Turn). x.state) (after 64 (omega arith) H M e)
