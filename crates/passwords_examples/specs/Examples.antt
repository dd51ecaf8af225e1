-- Small password files, judged, searched and changed by computing the definitions: that they say what document 01 says can be seen from these.
use Rattle.std.specs.Prelude.{true, false, cond, List, [], ◌∷◌, ◌++◌, ◌≡◌, refl, ℕ, zero, suc, length, take, replicate}
use Rattle.octets.specs.Lists.{part, over, on_part, on_nth}
use Rattle.octets.specs.Numbers.{little, spelled}
use Rattle.octets.specs.Same.{same_bytes}
use Rattle.rows.specs.Records.{payload_length, kind, size, cut, chunks, join, whole}
use Rattle.passwords.specs.Account.{digest_of, name, no_zero, shaped, obeys, changed, zeros, blanked}
use Rattle.passwords.specs.PasswordFile.{all_obey, named, distinct, well_formed, all_shaped, sound, count, find_from, find, record_at, name_at, digest_at, with_digest, mask_digests, in_record, nowhere}

-- ---- the files

-- a record of kind k with this payload
unfoldable pub entry : ℕ → List ℕ → List ℕ
entry k payload = spelled 4 (length payload) ++ (spelled 2 k ++ payload)

-- the account of this name, with a digest of 32 bytes d
unfoldable pub account : ℕ → List ℕ → List ℕ
account d n = entry 2 (replicate 32 d ++ n)

-- "ab" with a digest of sevens, then "c" with a digest of eights: 40 and 39 bytes
unfoldable pub two : List ℕ
two = account 7 (97 ∷ 98 ∷ []) ++ account 8 (99 ∷ [])

-- n accounts whose names are the bytes n to 1
unfoldable pub crowd : ℕ → List ℕ
crowd zero = []
crowd (suc n) = account 0 (suc n ∷ []) ++ crowd n

-- the places up to n after which a file may be cut and is well formed, the last one first
unfoldable pub good_cuts : ℕ → List ℕ → List ℕ
good_cuts zero file = []
good_cuts (suc n) file = cond (well_formed (take n file)) (n ∷ []) [] ++ good_cuts n file

-- a name that opens, on an `unfolding` line, all that these files are judged and changed by
unfoldable pub opened : ℕ
unfolding entry account two crowd good_cuts part over on_part on_nth little spelled same_bytes payload_length kind size cut chunks join whole digest_of name no_zero shaped obeys changed zeros blanked all_obey named distinct count well_formed all_shaped sound find_from find record_at name_at digest_at with_digest mask_digests
opened = 0

-- ---- well formed or not

-- an empty file is well formed
pub empty : well_formed [] ≡ true
unfolding opened
empty = refl

pub good : well_formed two ≡ true
unfolding opened
good = refl

-- cut at each place: good only where a record ends
pub cuts : good_cuts 80 two ≡ 79 ∷ 40 ∷ 0 ∷ []
unfolding opened
cuts = refl

-- a name has 1 to 32 bytes, none zero
pub names : well_formed (account 7 []) ∷ well_formed (account 7 (replicate 32 97)) ∷ well_formed (account 7 (replicate 33 97))
    ∷ well_formed (account 7 (97 ∷ 0 ∷ 98 ∷ [])) ∷ well_formed (entry 2 (replicate 31 7)) ∷ []
    ≡ false ∷ true ∷ false ∷ false ∷ false ∷ []
unfolding opened
names = refl

-- another kind
pub kinds : well_formed (entry 3 (replicate 33 97)) ∷ well_formed (entry 258 (replicate 33 97)) ∷ well_formed (two ++ entry 1 (replicate 33 97)) ∷ []
    ≡ false ∷ false ∷ false ∷ []
unfolding opened
kinds = refl

-- a repeated name, with another digest or behind others; a longer name is another one
pub repeated : well_formed (account 7 (97 ∷ []) ++ account 8 (97 ∷ [])) ∷ well_formed (two ++ account 7 (97 ∷ 98 ∷ [])) ∷ well_formed (two ++ account 7 (97 ∷ [])) ∷ []
    ≡ false ∷ false ∷ true ∷ []
unfolding opened
repeated = refl

-- at most 64 records
pub sixty_four : well_formed (crowd 64) ≡ true
unfolding opened
sixty_four = refl

pub sixty_five : well_formed (crowd 65) ≡ false
unfolding opened
sixty_five = refl

-- a table that can be read may have another kind, a zero in a name and a name twice, and nothing else
pub tables : sound two ∷ sound (entry 3 (replicate 33 0)) ∷ sound (two ++ two) ∷ sound (take 78 two) ∷ sound (account 7 []) ∷ sound (crowd 65) ∷ []
    ≡ true ∷ true ∷ true ∷ false ∷ false ∷ false ∷ []
unfolding opened
tables = refl

-- a record that the file's end cuts off counts
pub counts : count [] ∷ count two ∷ count (take 78 two) ∷ count (take 41 two) ∷ count (take 40 two) ∷ [] ≡ 0 ∷ 2 ∷ 2 ∷ 2 ∷ 1 ∷ []
unfolding opened
counts = refl

-- ---- found or not

-- the number, the digest's place and the records read; a name's beginning is not the name
pub searches : find (97 ∷ 98 ∷ []) two ∷ find (99 ∷ []) two ∷ find (97 ∷ []) two ∷ find [] two ∷ find (97 ∷ []) [] ∷ []
    ≡ in_record 0 6 1 ∷ in_record 1 46 2 ∷ nowhere 2 ∷ nowhere 2 ∷ nowhere 0 ∷ []
unfolding opened
searches = refl

-- a record that the file's end cuts off is read too: 01 never asks that of a file that start has accepted
pub cut_off : find (120 ∷ []) (take 50 two) ≡ nowhere 2
unfolding opened
cut_off = refl

pub by_number : name_at 0 two ∷ name_at 1 two ∷ name_at 2 two ∷ digest_at 1 two ∷ [] ≡ (97 ∷ 98 ∷ []) ∷ (99 ∷ []) ∷ [] ∷ replicate 32 8 ∷ []
unfolding opened
by_number = refl

-- ---- changed

pub new-digest : with_digest 1 (replicate 32 9) two ≡ account 7 (97 ∷ 98 ∷ []) ++ account 9 (99 ∷ [])
unfolding opened
new-digest = refl

-- "written from its first byte": the store took 50 bytes, so 4 of the new digest's
pub broken_off : over (take 50 (with_digest 1 (replicate 32 9) two)) two
    ≡ account 7 (97 ∷ 98 ∷ []) ++ entry 2 (replicate 4 9 ++ (replicate 28 8 ++ (99 ∷ [])))
unfolding opened
broken_off = refl

pub masked : mask_digests two ≡ account 0 (97 ∷ 98 ∷ []) ++ account 0 (99 ∷ [])
unfolding opened
masked = refl
