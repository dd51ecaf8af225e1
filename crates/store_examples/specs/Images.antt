-- Small images, worked out by hand from document 01, "Store image and password file".
use Rattle.std.specs.Prelude.{Bool, true, false, List, [], ◌∷◌, ◌++◌, map, ◌≡◌, refl, ℕ, take, replicate, Some, None}
use Rattle.octets.specs.Lists.{part, over, on_part}
use Rattle.octets.specs.Numbers.{little}
use Rattle.octets.specs.Same.{same_bytes}
use Rattle.rows.specs.declared.Step.TheVariants.{Record, Cut, End}
use Rattle.rows.specs.Records.{payload_length, kind, size, cut, chunks, join, whole}
use Rattle.rows.specs.Steps.{step_of, step_at}
use Rattle.octets.specs.Spans.{span}
use Rattle.image.specs.Files.{path_length, path, contents_at, contents_length, good_numbers, good_record, named, spot_in, file_in, on_file_in, holds, good_in}
use Rattle.image.specs.Image.{good, spot, file, on_file}

-- the paths "/a", "/b" and "/c"
abbrev a : List ℕ
a = 47 ∷ 97 ∷ []

abbrev b : List ℕ
b = 47 ∷ 98 ∷ []

abbrev c : List ℕ
c = 47 ∷ 99 ∷ []

-- the file "/a" with the bytes 1 and 2, and the file "/b" with none
abbrev first : List ℕ
first = 5 ∷ 0 ∷ 0 ∷ 0 ∷ 1 ∷ 0 ∷ 2 ∷ 47 ∷ 97 ∷ 1 ∷ 2 ∷ []

abbrev second : List ℕ
second = 3 ∷ 0 ∷ 0 ∷ 0 ∷ 1 ∷ 0 ∷ 2 ∷ 47 ∷ 98 ∷ []

abbrev both : List ℕ
both = first ++ second

-- a name whose line opens the definitions
unfoldable opened : Bool
unfolding part over on_part little same_bytes payload_length kind size cut chunks join whole step_of step_at path_length path contents_at contents_length good_numbers good_record named spot_in file_in on_file_in holds good_in good spot file on_file
opened = true

-- an image of no bytes
pub no_byte : good [] ≡ true
unfolding opened
no_byte = refl

-- the records of an image with two files
pub records : chunks both ≡ first ∷ second ∷ []
unfolding opened
records = refl

-- a reader's steps through it
pub steps : step_at both 0 ∷ step_at both 11 ∷ step_at both 20 ∷ step_at both 99 ∷ [] ≡ Record 1 (span 6 5) (record { at = 11 }) ∷ Record 1 (span 17 3) (record { at = 20 }) ∷ End ∷ End ∷ []
unfolding opened
steps = refl

-- the image cut behind each of its bytes: good only where a record ends
pub cut_anywhere : map (λ n. good (take n both)) (0 ∷ 1 ∷ 2 ∷ 3 ∷ 4 ∷ 5 ∷ 6 ∷ 7 ∷ 8 ∷ 9 ∷ 10 ∷ 11 ∷ 12 ∷ 13 ∷ 14 ∷ 15 ∷ 16 ∷ 17 ∷ 18 ∷ 19 ∷ 20 ∷ []) ≡ true ∷ false ∷ false ∷ false ∷ false ∷ false ∷ false ∷ false ∷ false ∷ false ∷ false ∷ true ∷ false ∷ false ∷ false ∷ false ∷ false ∷ false ∷ false ∷ false ∷ true ∷ []
unfolding opened
cut_anywhere = refl

-- a step at a record that is cut, in its payload, in its header, and by a length of 2^32 - 1
pub cut_step : step_at (take 19 both) 11 ∷ step_at (take 16 both) 11 ∷ step_at (255 ∷ 255 ∷ 255 ∷ 255 ∷ 1 ∷ 0 ∷ 2 ∷ 47 ∷ 97 ∷ []) 0 ∷ [] ≡ Cut ∷ Cut ∷ Cut ∷ []
unfolding opened
cut_step = refl

-- where files stand
pub places : spot a both ∷ spot b both ∷ spot c both ∷ [] ≡ Some (span 9 2) ∷ Some (span 20 0) ∷ None ∷ []
unfolding opened
places = refl

-- what they hold
pub bytes : file a both ∷ file b both ∷ file c both ∷ [] ≡ (1 ∷ 2 ∷ []) ∷ [] ∷ [] ∷ []
unfolding opened
bytes = refl

-- a change of "/a", and of a file that is not there
pub changed : on_file a (over (9 ∷ 8 ∷ [])) both ∷ on_file c (over (9 ∷ 8 ∷ [])) both ∷ [] ≡ (5 ∷ 0 ∷ 0 ∷ 0 ∷ 1 ∷ 0 ∷ 2 ∷ 47 ∷ 97 ∷ 9 ∷ 8 ∷ 3 ∷ 0 ∷ 0 ∷ 0 ∷ 1 ∷ 0 ∷ 2 ∷ 47 ∷ 98 ∷ []) ∷ both ∷ []
unfolding opened
changed = refl

-- a path that comes again
pub repeated : good (first ++ (second ++ first)) ≡ false
unfolding opened
repeated = refl

-- kind 1 alone: 0, 1, 2, 3, and 257, whose low byte is 1
pub kinds : good (3 ∷ 0 ∷ 0 ∷ 0 ∷ 0 ∷ 0 ∷ 2 ∷ 47 ∷ 97 ∷ []) ∷ good (3 ∷ 0 ∷ 0 ∷ 0 ∷ 1 ∷ 0 ∷ 2 ∷ 47 ∷ 97 ∷ []) ∷ good (3 ∷ 0 ∷ 0 ∷ 0 ∷ 2 ∷ 0 ∷ 2 ∷ 47 ∷ 97 ∷ []) ∷ good (3 ∷ 0 ∷ 0 ∷ 0 ∷ 3 ∷ 0 ∷ 2 ∷ 47 ∷ 97 ∷ []) ∷ good (3 ∷ 0 ∷ 0 ∷ 0 ∷ 1 ∷ 1 ∷ 2 ∷ 47 ∷ 97 ∷ []) ∷ [] ≡ false ∷ true ∷ false ∷ false ∷ false ∷ []
unfolding opened
kinds = refl

-- paths of 0, 1, 2, 63 and 64 bytes
pub path_lengths : good ((1 ∷ 0 ∷ 0 ∷ 0 ∷ 1 ∷ 0 ∷ 0 ∷ []) ++ replicate 0 120) ∷ good ((2 ∷ 0 ∷ 0 ∷ 0 ∷ 1 ∷ 0 ∷ 1 ∷ []) ++ replicate 1 120) ∷ good ((3 ∷ 0 ∷ 0 ∷ 0 ∷ 1 ∷ 0 ∷ 2 ∷ []) ++ replicate 2 120) ∷ good ((64 ∷ 0 ∷ 0 ∷ 0 ∷ 1 ∷ 0 ∷ 63 ∷ []) ++ replicate 63 120) ∷ good ((65 ∷ 0 ∷ 0 ∷ 0 ∷ 1 ∷ 0 ∷ 64 ∷ []) ++ replicate 64 120) ∷ [] ≡ false ∷ false ∷ true ∷ true ∷ false ∷ []
unfolding opened
path_lengths = refl

-- a path that its record cuts off, by one byte, and not at all; a record with no payload
pub path-cut : good (3 ∷ 0 ∷ 0 ∷ 0 ∷ 1 ∷ 0 ∷ 3 ∷ 47 ∷ 97 ∷ []) ∷ good (4 ∷ 0 ∷ 0 ∷ 0 ∷ 1 ∷ 0 ∷ 3 ∷ 47 ∷ 97 ∷ 98 ∷ []) ∷ good (0 ∷ 0 ∷ 0 ∷ 0 ∷ 1 ∷ 0 ∷ []) ∷ [] ≡ false ∷ true ∷ false ∷ []
unfolding opened
path-cut = refl

-- a path may hold any bytes
pub any_bytes : good (4 ∷ 0 ∷ 0 ∷ 0 ∷ 1 ∷ 0 ∷ 2 ∷ 0 ∷ 255 ∷ 7 ∷ []) ≡ true
unfolding opened
any_bytes = refl
