-- Document 01, "The listing program": the lines, as bytes.
use Rattle.std.specs.Prelude.{cond, ◌||◌, List, [], ◌∷◌, ◌++◌, ℕ, zero, suc, ◌+◌, ◌/◌, ◌%◌, eqb, ltb}

-- a number's digits, at most n of them, the highest first; no zeros lead
unfoldable pub digits : ℕ → ℕ → List ℕ
digits zero v = []
digits (suc n) v = cond (ltb v 10) [] (digits n (v / 10)) ++ ((48 + v % 10) ∷ [])

-- twenty are enough for every number of 64 bits
unfoldable pub decimal : ℕ → List ℕ
decimal v = digits 20 v

-- "partitions 3 dsegs 1 msegs 1"
unfoldable pub header_line : ℕ → ℕ → ℕ → List ℕ
header_line partitions dsegs msegs =
    (112 ∷ 97 ∷ 114 ∷ 116 ∷ 105 ∷ 116 ∷ 105 ∷ 111 ∷ 110 ∷ 115 ∷ 32 ∷ []) ++ (decimal partitions ++
    ((32 ∷ 100 ∷ 115 ∷ 101 ∷ 103 ∷ 115 ∷ 32 ∷ []) ++ (decimal dsegs ++
    ((32 ∷ 109 ∷ 115 ∷ 101 ∷ 103 ∷ 115 ∷ 32 ∷ []) ++ (decimal msegs ++ (10 ∷ []))))))

-- " RO " or " RW "
unfoldable pub permission : ℕ → List ℕ
permission n = cond (eqb n 2) (32 ∷ 82 ∷ 87 ∷ 32 ∷ []) (32 ∷ 82 ∷ 79 ∷ 32 ∷ [])

-- " D " and " M "
abbrev pub dseg : List ℕ
dseg = 32 ∷ 68 ∷ 32 ∷ []

abbrev pub mseg : List ℕ
mseg = 32 ∷ 77 ∷ 32 ∷ []

-- "Fields: partition, D or M, index, permission"
unfoldable pub fields : ℕ → List ℕ → ℕ → ℕ → List ℕ
fields p letter i granted = decimal p ++ (letter ++ (decimal i ++ permission granted))

-- and "path or size in bytes"; "NA gives no line"
unfoldable pub line : ℕ → List ℕ → ℕ → ℕ → List ℕ → List ℕ
line p letter i granted what = cond (eqb granted 1 || eqb granted 2) (fields p letter i granted ++ (what ++ (10 ∷ []))) []

-- "A refusal prints one line, as `refused 413 line 3`"
unfoldable pub refusal_line : ℕ → ℕ → List ℕ
refusal_line number at = (114 ∷ 101 ∷ 102 ∷ 117 ∷ 115 ∷ 101 ∷ 100 ∷ 32 ∷ []) ++ (decimal number ++ ((32 ∷ 108 ∷ 105 ∷ 110 ∷ 101 ∷ 32 ∷ []) ++ (decimal at ++ (10 ∷ []))))
