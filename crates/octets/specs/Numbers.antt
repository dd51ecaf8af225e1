-- Numbers as rows of bytes, the lowest byte first ("little-endian", document 01, "Store image and password file").
use Rattle.std.specs.Prelude.{List, [], ◌∷◌, ℕ, zero, suc, ◌+◌, ◌*◌, ◌/◌, ◌%◌}

-- the number that a row of bytes spells; the empty row spells 0
unfoldable pub little : List ℕ → ℕ
little [] = 0
little (b ∷ l) = b + 256 * little l

-- the n bytes that spell v; what does not fit into n bytes is dropped
unfoldable pub spelled : ℕ → ℕ → List ℕ
spelled zero v = []
spelled (suc n) v = v % 256 ∷ spelled n (v / 256)
