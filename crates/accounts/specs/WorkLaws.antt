-- What bounds a work count: a string is digested in one block, and a table has no more records than bytes.
use Rattle.std.specs.Prelude.{Bool, true, false, List, [], ◌∷◌, ◌≡◌, refl, ℕ, ◌+◌, ◌≤◌, eqb, length, take, drop}
use Rattle.std.proofs.Common.{arith, length-take}
use Rattle.octets.specs.Search.{index_of, index_after}
use Rattle.rows.specs.Records.{chunks}
use Rattle.sha256.specs.Padding.{zeros, blocks}
use Rattle.sha256.specs.Laws.{length-padded}
use Rattle.passwords.specs.PasswordFile.{count, in_record, find}
use Rattle.passwords.specs.WalkLaws.{first-at}
use Rattle.passwords.specs.FoundLaws.{found}
use Rattle.accounts.specs.Strings.{ending, string_of}

-- ---- a string

index_inside : (l : List ℕ) → index_of 0 l ≤ length l
unfolding index_of index_after
index_inside [] = omega arith
index_inside (b ∷ l) = go (eqb b 0) (index_inside l)
  where
    go : (t : Bool) → index_of 0 l ≤ length l → index_after t (index_of 0 l) ≤ length (b ∷ l)
    go true h = omega arith
    go false h = omega arith

pub string_short : (s : List ℕ) → length (string_of s) ≤ 33
unfolding string_of ending
string_short s =
    let inside = index_inside (take 33 s) in
    let first : length (take 33 s) ≤ 33 = rw length-take (omega arith) in
    rw length-take (omega arith)

pub one_block : (s : List ℕ) → blocks (string_of s) ≡ 1
unfolding blocks zeros
one_block s =
    let short = string_short s in
    rw (length-padded (string_of s)) (omega arith)

-- ---- a table

records_inside : (table : List ℕ) (at : ℕ) (cs : List (List ℕ)) → chunks (drop at table) ≡ cs → at ≤ length table → at + length cs ≤ length table
records_inside table at [] e h = omega arith
records_inside table at (c ∷ cs) e h =
    let f = first-at table at c cs e in
    let some = f.some in
    let rest = records_inside table (at + length c) cs f.goes_on f.inside in
    omega arith

pub few_records : (table : List ℕ) → count table ≤ length table
unfolding count
few_records table =
    let h = records_inside table 0 (chunks table) refl (omega arith) in
    omega arith

pub few_read : (name table : List ℕ) (i place total : ℕ) → find name table ≡ in_record i place total → total ≤ length table
few_read name table i place total e =
    let f = found name table i place total e in
    let low = f.is_record in
    let counted = f.counted in
    let few = few_records table in
    omega arith
