-- Load, store and flush (Memory and Flush among the calls). n is the number of the common checks, 0 where nothing is refused.
use Rattle.std.specs.Prelude.{cond, not, List, [], ◌∷◌, ℕ, ◌+◌, eqb, ltb, length, take}
use Rattle.octets.specs.Lists.{part, over, write_at, on_part}
use Rattle.checks.specs.Checks.{Check, ◌when◌, after}
use Rattle.checks.specs.Settle.{settle}
use Rattle.checks.specs.Told.{Told, told}
use Rattle.state.specs.declared.Segment.{Segment}
use Rattle.memory.specs.declared.Reach.{Reach}

-- the segment's bytes in the arena
unfoldable pub bytes_of : Segment → List ℕ → List ℕ
bytes_of s arena = part s.memory.place s.memory.length arena

-- ---- load and store, "the processor's own accesses"

-- "BAD_SELECTOR (not in this partition's list), .. BAD_OFFSET (the range, as long as the lent buffer, leaves the segment)"
unfoldable pub load_checks : Reach → ℕ → ℕ → List Check
load_checks r offset n = (211 when eqb r.right 0) ∷ (209 when ltb r.segment.memory.length (offset + n)) ∷ []

unfoldable pub load : ℕ → Reach → ℕ → List ℕ → List ℕ → Told
load n r offset arena buffer =
    let m = after n (load_checks r offset (length buffer)) in
    settle m (told 0 (over (part offset (length buffer) (bytes_of r.segment arena)) buffer)) (told m buffer)

-- ".. NO_WRITE (store to RO) .."
unfoldable pub store_checks : Reach → ℕ → ℕ → List Check
store_checks r offset n =
    (211 when eqb r.right 0)
    ∷ (202 when not (eqb r.right 2))
    ∷ (209 when ltb r.segment.memory.length (offset + n))
    ∷ []

unfoldable pub store : ℕ → Reach → ℕ → List ℕ → List ℕ → Told
store n r offset bytes arena =
    let m = after n (store_checks r offset (length bytes)) in
    settle m (told 0 (on_part r.segment.memory.place r.segment.memory.length (write_at offset bytes) arena)) (told m arena)

-- ---- flush

-- "Flush, with the number of bytes the store will take: BAD_SELECTOR, NOT_MAPPED (mseg), NO_WRITE."
unfoldable pub flush_checks : Reach → List Check
flush_checks r = (211 when eqb r.right 0) ∷ (201 when not r.mapped) ∷ (202 when not (eqb r.right 2)) ∷ []

-- "If the number is below the size, that many first bytes are written and the answer is WRITE_FAILURE; else all."
unfoldable pub flush : ℕ → Reach → ℕ → List ℕ → List ℕ → Told
flush n r taken arena store =
    let m = after n (flush_checks r) in
    settle m
    (told (cond (ltb taken r.segment.memory.length) 203 0)
    (on_part r.segment.file.place r.segment.file.length (over (take taken (bytes_of r.segment arena))) store))
    (told m store)
