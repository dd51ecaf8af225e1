-- Document 01, "Store image and password file": "rows of records: payload length (four bytes, little-endian), kind (two bytes, little-endian), payload".
use Rattle.std.specs.Prelude.{Bool, List, [], ◌∷◌, ◌++◌, ◌≡◌, ℕ, zero, suc, ◌+◌, eqb, length, take, drop}
use Rattle.octets.specs.Lists.{part}
use Rattle.octets.specs.Numbers.{little}

-- what the header says: all of it in the first six bytes, so that records with the same six bytes say the same
unfoldable pub payload_length : List ℕ → ℕ
payload_length l = little (part 0 4 l)

unfoldable pub kind : List ℕ → ℕ
kind l = little (part 4 2 l)

-- how many bytes the record at the start of l has, by its header
unfoldable pub size : List ℕ → ℕ
size l = 6 + payload_length l

unfoldable pub payload : List ℕ → List ℕ
payload c = drop 6 c

-- a row cut into its records, at most n of them; the last one is shorter than its header says where the row ends first
unfoldable pub cut : ℕ → List ℕ → List (List ℕ)
cut zero l = []
cut (suc n) [] = []
cut (suc n) (b ∷ l) = take (size (b ∷ l)) (b ∷ l) ∷ cut n (drop (size (b ∷ l)) (b ∷ l))

-- every record has a byte at least, so a row has no more records than bytes
unfoldable pub chunks : List ℕ → List (List ℕ)
chunks l = cut (length l) l

-- the records one behind the other again
unfoldable pub join : List (List ℕ) → List ℕ
join [] = []
join (c ∷ cs) = c ++ join cs

-- a record is whole: it has as many bytes as its header says, the header's own six among them
unfoldable pub whole : List ℕ → Bool
whole c = eqb (length c) (size c)

-- two records with the same header and as many bytes
abbrev pub Alike : List ℕ → List ℕ → Type 0
Alike c d = (take 6 c ≡ take 6 d) × (length c ≡ length d)

-- two rows of records that are alike one by one
pub data Like : List (List ℕ) → List (List ℕ) → Type 0 where
  none : Like [] []
  more : {c d : List ℕ} {cs ds : List (List ℕ)} → Alike c d → Like cs ds → Like (c ∷ cs) (d ∷ ds)
