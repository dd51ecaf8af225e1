-- Document 01, "Refusals at start, in order of checking": the checks on one statement. 404 for a malformed one comes before them.
use Rattle.std.specs.Prelude.{Bool, false, ◌&&◌, ◌||◌, not, List, [], ◌∷◌, ℕ, zero, suc, eqb, leb, ltb, take, get_or}
use Rattle.checks.specs.Checks.{Check, ◌when◌, after}
use Rattle.octets.specs.Same.{same_bytes}
use Rattle.image.specs.Image.{spot, was_found}
use Rattle.setup.specs.declared.Setup.{Setup}
use Rattle.setup.specs.Setup.{is_active, has_code, path_taken, permission_of}

-- "path begins "/scos/""
unfoldable pub reserved : List ℕ → Bool
reserved path = same_bytes (take 6 path) (47 ∷ 115 ∷ 99 ∷ 111 ∷ 115 ∷ 47 ∷ [])

-- "path not in the image"; `look` is false for readers that have no image
unfoldable pub absent : Bool → List ℕ → List ℕ → Bool
absent look image path = look && not (was_found (spot path image))

-- some active partition, of the n first, has RW
unfoldable pub some_writes : ℕ → Setup → ℕ → ℕ → Bool
some_writes zero s count bits = false
some_writes (suc n) s count bits = (is_active s n && eqb (permission_of count bits n) 2) || some_writes n s count bits

-- "wrong number of permissions or a rule above broken": "An active host of a dseg may not have NA"
abbrev pub dseg_broken : Setup → ℕ → ℕ → ℕ → Bool
dseg_broken s host count bits = not (eqb count s.partitions) || (is_active s host && eqb (permission_of count bits host) 0)

-- "An mseg needs RW for at least one active partition"
abbrev pub mseg_broken : Setup → ℕ → ℕ → Bool
mseg_broken s count bits = not (eqb count s.partitions) || not (some_writes s.partitions s count bits)

-- Statements stand in the order CODE, DSEG, MSEG: a statement of a lower rank than the highest met before it is out of order.
abbrev pub code_rank : ℕ
code_rank = 1

abbrev pub dseg_rank : ℕ
dseg_rank = 2

abbrev pub mseg_rank : ℕ
mseg_rank = 3

-- CODE[p] = path, when the highest rank met is `rank`
unfoldable pub code_checks : Bool → List ℕ → ℕ → Setup → ℕ → List ℕ → List Check
code_checks look image rank s p path =
    (404 when ltb code_rank rank) ∷
    (407 when not (is_active s p)) ∷
    (408 when has_code s p) ∷
    (410 when reserved path) ∷
    (411 when absent look image path) ∷ []

-- DSEG[index] = { path, host, permissions }, with `count` permissions
unfoldable pub dseg_checks : Bool → List ℕ → List ℕ → ℕ → Setup → ℕ → List ℕ → ℕ → ℕ → ℕ → List Check
dseg_checks look image text rank s index path host count bits =
    (404 when ltb dseg_rank rank) ∷
    (405 when leb 16 s.dsegcount) ∷
    (406 when not (eqb index s.dsegcount)) ∷
    (407 when leb s.partitions host) ∷
    (409 when path_taken text path s) ∷
    (410 when reserved path) ∷
    (411 when absent look image path) ∷
    (413 when dseg_broken s host count bits) ∷ []

-- MSEG[index] = { size, host, permissions }
unfoldable pub mseg_checks : Setup → ℕ → ℕ → ℕ → ℕ → ℕ → List Check
mseg_checks s index size host count bits =
    (405 when leb 16 s.msegcount) ∷
    (406 when not (eqb index s.msegcount)) ∷
    (407 when leb s.partitions host) ∷
    (412 when (eqb size 0 || ltb 16777216 size)) ∷
    (413 when mseg_broken s count bits) ∷ []

-- behind the last statement: "an active partition has no CODE", of the n first
unfoldable pub code_missing : ℕ → Setup → Bool
code_missing zero s = false
code_missing (suc n) s = (is_active s n && not (has_code s n)) || code_missing n s

-- before the text is looked at: "partition count not 1 to 8, or none active", and "text over 16,384 bytes"
unfoldable pub some_active : ℕ → List Bool → Bool
some_active zero active = false
some_active (suc n) active = get_or active n false || some_active n active

abbrev pub bad_partitions : ℕ → List Bool → Bool
bad_partitions count active = not (leb 1 count && leb count 8) || not (some_active count active)

unfoldable pub limits : ℕ → List Bool → ℕ → ℕ
limits count active bytes =
    after 0 (
    (401 when bad_partitions count active) ∷
    (402 when ltb 16384 bytes) ∷ [])
