-- The configuration database: "Always 2,584 bytes, numbers of four bytes little-endian", which are `spelled 4` (octets, Numbers).
use Rattle.std.specs.Prelude.{cond, List, [], ◌∷◌, ◌++◌, ℕ, zero, suc, ◌+◌, ◌-◌, eqb, ltb, length, replicate}
use Rattle.octets.specs.Lists.{part, over}
use Rattle.octets.specs.Numbers.{spelled}
use Rattle.checks.specs.Checks.{◌when◌, after}
use Rattle.checks.specs.Settle.{settle}
use Rattle.state.specs.declared.Plan.{Plan}
use Rattle.state.specs.Parts.{segment_at}
use Rattle.memory.specs.Rights.{right_of}
use Rattle.checks.specs.Told.{Told, told}

-- bytes filled up with zeros to n, and cut where there are more
unfoldable pub filled : ℕ → List ℕ → List ℕ
filled n l = over l (replicate n 0)

-- ---- entries

-- "kind (1 dseg, 2 mseg)", for the segment of a row of the permission table
unfoldable pub kind_of : ℕ → ℕ
kind_of row = cond (ltb row 16) 1 2

-- "Selectors: 256 + index for a dseg, 512 + index for an mseg": the segment's own index
unfoldable pub selector_of : ℕ → ℕ
selector_of row = cond (ltb row 16) (256 + row) (512 + (row - 16))

-- "entries of 80 bytes: kind, selector, size, permission (1 RO, 2 RW), 64 bytes of path filled up with zeros"
unfoldable pub entry : ℕ → ℕ → ℕ → ℕ → List ℕ → List ℕ
entry kind selector size right path = spelled 4 kind ++ (spelled 4 selector ++ (spelled 4 size ++ (spelled 4 right ++ filled 64 path)))

-- the path as the store has it; "all zero for an mseg", whose path has no bytes
unfoldable pub path_of : Plan → List ℕ → ℕ → List ℕ
path_of plan store row = part (segment_at plan row).path.place (segment_at plan row).path.length store

unfoldable pub entry_of : Plan → List ℕ → ℕ → ℕ → List ℕ
entry_of plan store right row = entry (kind_of row) (selector_of row) (segment_at plan row).memory.length right (path_of plan store row)

-- the entry of a row for partition p: none where it has no right to the segment
unfoldable pub listed : Plan → List (List ℕ) → List ℕ → ℕ → ℕ → List ℕ
listed plan permissions store p row =
    let right = right_of plan permissions row p in
    cond (eqb right 0) [] (entry_of plan store right row)

-- "Dsegs with RO or RW for this partition come first in order, then msegs": the entries of the first n rows, and how many they are
unfoldable pub entries : Plan → List (List ℕ) → List ℕ → ℕ → ℕ → List ℕ
entries plan permissions store p zero = []
entries plan permissions store p (suc n) = entries plan permissions store p n ++ listed plan permissions store p n

unfoldable pub entry_count : Plan → List (List ℕ) → ℕ → ℕ → ℕ
entry_count plan permissions p zero = 0
entry_count plan permissions p (suc n) = entry_count plan permissions p n + cond (eqb (right_of plan permissions n p) 0) 0 1

-- ---- the whole

-- "version 1, keyboard major and minor, screen major and minor, segment count"; "Keyboard major 1, screen major 2, minor = partition"
unfoldable pub header : ℕ → ℕ → List ℕ
header p count = spelled 4 1 ++ (spelled 4 1 ++ (spelled 4 p ++ (spelled 4 2 ++ (spelled 4 p ++ spelled 4 count))))

-- "then 32 entries of 80 bytes .. unused entries are zero"
unfoldable pub database : Plan → List (List ℕ) → List ℕ → ℕ → List ℕ
database plan permissions store p = filled 2584 (header p (entry_count plan permissions p 32) ++ entries plan permissions store p 32)

-- "Configuration: BAD_BUFFER below 2,584"; "A call writes it to a lent buffer; bytes behind stay". n is the number of the common checks
unfoldable pub configuration : ℕ → Plan → List (List ℕ) → List ℕ → ℕ → List ℕ → Told
configuration n plan permissions store p buffer =
    let m = after n ((214 when ltb (length buffer) 2584) ∷ []) in
    settle m (told 0 (over (database plan permissions store p) buffer)) (told m buffer)
