-- The password file of a partition (document 01, "Store image and password file"): "At most 64 records, names distinct."
use Rattle.std.specs.Prelude.{Bool, true, false, cond, not, ◌&&◌, ◌||◌, List, [], ◌∷◌, map, ℕ, ◌+◌, leb, length, get_or, Some, None}
use Rattle.octets.specs.Lists.{on_nth}
use Rattle.octets.specs.Same.{same_bytes}
use Rattle.rows.specs.Records.{chunks, join}
use Rattle.passwords.specs.declared.Lookup.{Lookup}
use Rattle.passwords.specs.Account.{digest_start, digest_of, name, shaped, obeys, changed, blanked}
use Rattle.passwords.specs.Walk.{span_of}

-- ---- well formed

unfoldable pub count : List ℕ → ℕ
count file = length (chunks file)

unfoldable pub all_obey : List (List ℕ) → Bool
all_obey [] = true
all_obey (c ∷ cs) = obeys c && all_obey cs

-- one of these records has this name
unfoldable pub named : List ℕ → List (List ℕ) → Bool
named n [] = false
named n (c ∷ cs) = same_bytes (name c) n || named n cs

unfoldable pub distinct : List (List ℕ) → Bool
distinct [] = true
distinct (c ∷ cs) = not (named (name c) cs) && distinct cs

-- every record obeys its kind, "at most 64 records, names distinct"; an empty file is well formed
unfoldable pub well_formed : List ℕ → Bool
well_formed file = all_obey (chunks file) && (leb (count file) 64 && distinct (chunks file))

-- what a table in memory must be to be read: its records end where it ends, each with room for a digest and a name, and there are at most 64
-- (01, Calls: "a place or count, .. read in a password table, that leads outside its area")
unfoldable pub all_shaped : List (List ℕ) → Bool
all_shaped [] = true
all_shaped (c ∷ cs) = shaped c && all_shaped cs

unfoldable pub sound : List ℕ → Bool
sound file = all_shaped (chunks file) && leb (count file) 64

-- ---- a record by its name

-- in this record, counted from 0, with its digest from this place on; so many records were read
abbrev pub in_record : ℕ → ℕ → ℕ → Lookup
in_record number place count = record { entry = Some (record { number = number; digest = place }); count = count }

-- in no record; so many were read
abbrev pub nowhere : ℕ → Lookup
nowhere count = record { entry = None; count = count }

-- the first record with this name, of those from place `at` on, where so many records were read before: its number, the place of its digest and "the records read,
-- up to and with the named one or all of them" (01, Login)
unfoldable pub find_from : List ℕ → ℕ → ℕ → List (List ℕ) → Lookup
find_from n before at [] = nowhere before
find_from n before at (c ∷ cs) = cond (same_bytes (name c) n) (in_record before (at + digest_start) (before + 1)) (find_from n (before + 1) (at + length c) cs)

unfoldable pub find : List ℕ → List ℕ → Lookup
find n file = find_from n 0 0 (chunks file)

-- ---- a record by its number, from 0

-- record i; nothing where there is none
unfoldable pub record_at : ℕ → List ℕ → List ℕ
record_at i file = get_or (chunks file) i []

unfoldable pub name_at : ℕ → List ℕ → List ℕ
name_at i file = name (record_at i file)

unfoldable pub digest_at : ℕ → List ℕ → List ℕ
digest_at i file = digest_of (record_at i file)

-- where its digest stands in the file; behind the file's end where there is no such record
unfoldable pub digest_place : ℕ → List ℕ → ℕ
digest_place i file = (span_of i file).place + digest_start

-- ---- changes

-- the file with a new digest in record i (01, Set-password: "the new digest goes into the file image"); the same file where there is no such record
unfoldable pub with_digest : ℕ → List ℕ → List ℕ → List ℕ
with_digest i new file = join (on_nth i (changed new) (chunks file))

-- the file with every digest blanked: what may be seen of it without the passwords
unfoldable pub mask_digests : List ℕ → List ℕ
mask_digests file = join (map blanked (chunks file))
