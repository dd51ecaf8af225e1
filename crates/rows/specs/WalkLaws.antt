-- How a row is cut into records: what the cutting goes by, how it goes on behind a record, and that nothing is lost.
use Rattle.std.specs.Prelude.{List, [], ◌∷◌, ◌≡◌, refl, ℕ, zero, suc, ◌≤◌, ◌<◌, length, take, drop}
use Rattle.std.proofs.Common.{sym, ◌∙◌, not-suc-le-zero, le_refl, arith, length-drop, take-append-drop}
use Rattle.octets.specs.PartLaws.{part-take}
use Rattle.rows.specs.Records.{payload_length, kind, size, cut, chunks, join}

-- ---- the header

pub payload_length-header : (l : List ℕ) → payload_length (take 6 l) ≡ payload_length l
unfolding payload_length
payload_length-header l = rw (part-take 0 4 6 l (omega arith))

pub kind-header : (l : List ℕ) → kind (take 6 l) ≡ kind l
unfolding kind
kind-header l = rw (part-take 4 2 6 l (omega arith))

pub payload_length-same : (c d : List ℕ) → take 6 c ≡ take 6 d → payload_length c ≡ payload_length d
payload_length-same c d e = sym (payload_length-header c) ∙ rw e (payload_length-header d)

pub kind-same : (c d : List ℕ) → take 6 c ≡ take 6 d → kind c ≡ kind d
kind-same c d e = sym (kind-header c) ∙ rw e (kind-header d)

pub size_same : (c d : List ℕ) → take 6 c ≡ take 6 d → size c ≡ size d
unfolding size
size_same c d e = rw (payload_length-same c d e)

pub six_size : (l : List ℕ) → 6 ≤ size l
unfolding size
six_size l = omega arith

-- ---- enough is enough

shorter : (b : ℕ) (l : List ℕ) → length (drop (size (b ∷ l)) (b ∷ l)) ≤ length l
shorter b l = rw length-drop (omega (arith, six_size (b ∷ l)))

pub cut-enough : (n m : ℕ) (l : List ℕ) → length l ≤ n → length l ≤ m → cut n l ≡ cut m l
unfolding cut
cut-enough zero zero l h k = refl
cut-enough zero (suc m) [] h k = refl
cut-enough zero (suc m) (b ∷ l) h k = absurd (not-suc-le-zero h)
cut-enough (suc n) zero [] h k = refl
cut-enough (suc n) zero (b ∷ l) h k = absurd (not-suc-le-zero k)
cut-enough (suc n) (suc m) [] h k = refl
cut-enough (suc n) (suc m) (b ∷ l) h k =
    let s = shorter b l in
    rw (cut-enough n m (drop (size (b ∷ l)) (b ∷ l)) (omega arith) (omega arith))

-- ---- the walk

pub chunks-none : chunks [] ≡ []
unfolding chunks cut
chunks-none = refl

-- behind the first record the rest is cut in the same way
pub chunks-on : (l : List ℕ) → 0 < length l → chunks l ≡ take (size l) l ∷ chunks (drop (size l) l)
unfolding chunks cut
chunks-on [] h = absurd (not-suc-le-zero h)
chunks-on (b ∷ l) h =
    rw (cut-enough (length l) (length (drop (size (b ∷ l)) (b ∷ l))) (drop (size (b ∷ l)) (b ∷ l)) (shorter b l) (le_refl (length (drop (size (b ∷ l)) (b ∷ l)))))

join-cut : (n : ℕ) (l : List ℕ) → length l ≤ n → join (cut n l) ≡ l
unfolding cut join
join-cut zero [] h = refl
join-cut zero (b ∷ l) h = absurd (not-suc-le-zero h)
join-cut (suc n) [] h = refl
join-cut (suc n) (b ∷ l) h =
    let s = shorter b l in
    rw (join-cut n (drop (size (b ∷ l)) (b ∷ l)) (omega arith)) (take-append-drop (size (b ∷ l)) (b ∷ l))

-- nothing is lost, and nothing comes in
pub join-chunks : (l : List ℕ) → join (chunks l) ≡ l
unfolding chunks
join-chunks l = join-cut (length l) l (le_refl (length l))
