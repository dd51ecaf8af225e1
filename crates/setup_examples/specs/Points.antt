-- Points of document 01 ("Points on either side") about the set-up text, computed from the definitions: what reading a text without an image
-- answers, for three partitions of which the last is passive.
use Rattle.std.specs.Prelude.{◌≡◌, refl, Bool, true, false, List, [], ◌∷◌, map, ℕ}
use Rattle.octets.specs.Lists.{part}
use Rattle.octets.specs.Same.{same_bytes}
use Rattle.text.specs.Gaps.{gap_from, token_place, line_feeds, line_of}
use Rattle.text.specs.Tokens.{run, word_at, decimal_from, number_from, number_at, sized, with_unit, size_at, path_of, quoted_path, bare_path, path_at}
use Rattle.statements.specs.Statements.{head_at, permission_at, packed, permissions_from, permissions_at, tail_at, code_at, dseg_at, mseg_at, statement_at, kind_at, statement_of}
use Rattle.checks.specs.Checks.{refused, after}
use Rattle.octets.specs.Spans.{bytes_of}
use Rattle.setup.specs.Setup.{begun, is_active, has_code, among, paths_of, path_taken, permission_of, permission_row, with_code, with_dseg, with_mseg}
use Rattle.setup.specs.Rules.{reserved, absent, some_writes, code_checks, dseg_checks, mseg_checks, code_missing, some_active, limits}
use Rattle.setup.specs.Reading.{settled, judged, judged_at, ended, read_from, read}

-- a text, and the number and the line of its refusal: 0 and 0 where it is accepted
pub record Point : Type 0 where
  pub text : List ℕ
  pub number : ℕ
  pub line : ℕ

abbrev point : ℕ → ℕ → List ℕ → Point
point number line text = record { text = text; number = number; line = line }

abbrev aap : List Bool
aap = true ∷ true ∷ false ∷ false ∷ false ∷ false ∷ false ∷ false ∷ []

-- opens every definition that reading rests on
unfoldable pub opened : ℕ
unfolding part same_bytes gap_from token_place line_feeds line_of run word_at decimal_from number_from number_at sized with_unit size_at path_of quoted_path bare_path path_at head_at permission_at packed permissions_from permissions_at tail_at code_at dseg_at mseg_at statement_at kind_at statement_of refused after begun is_active bytes_of has_code among paths_of path_taken permission_of permission_row with_code with_dseg with_mseg reserved absent some_writes code_checks dseg_checks mseg_checks code_missing some_active limits settled judged judged_at ended read_from read
opened = 0

-- what the definitions answer, as a point
unfoldable pub answered : Point → Point
answered p = point (read false [] p.text 3 aap).number (read false [] p.text 3 aap).line p.text

-- the starred points of document 01 that are about the text; `starred` puts them beside those about calls, and proves all as one fact
unfoldable pub starred : List Point
starred =
    -- index 16 after sixteen DSEGs: 405
    point 405 18 (67 ∷ 79 ∷ 68 ∷ 69 ∷ 91 ∷ 48 ∷ 93 ∷ 61 ∷ 47 ∷ 97 ∷ 59 ∷ 67 ∷ 79 ∷ 68 ∷ 69 ∷ 91 ∷ 49 ∷ 93 ∷ 61 ∷ 47 ∷ 98 ∷ 59 ∷ 10 ∷ 68 ∷ 83 ∷ 69 ∷ 71 ∷ 91 ∷ 48 ∷ 93 ∷ 61 ∷ 123 ∷ 47 ∷ 100 ∷ 97 ∷ 44 ∷ 48 ∷ 44 ∷ 82 ∷ 87 ∷ 44 ∷ 82 ∷ 79 ∷ 44 ∷ 78 ∷ 65 ∷ 125 ∷ 59 ∷ 10 ∷ 68 ∷ 83 ∷ 69 ∷ 71 ∷ 91 ∷ 49 ∷ 93 ∷ 61 ∷ 123 ∷ 47 ∷ 100 ∷ 98 ∷ 44 ∷ 48 ∷ 44 ∷ 82 ∷ 87 ∷ 44 ∷ 82 ∷ 79 ∷ 44 ∷ 78 ∷ 65 ∷ 125 ∷ 59 ∷ 10 ∷ 68 ∷ 83 ∷ 69 ∷ 71 ∷ 91 ∷ 50 ∷ 93 ∷ 61 ∷ 123 ∷ 47 ∷ 100 ∷ 99 ∷ 44 ∷ 48 ∷ 44 ∷ 82 ∷ 87 ∷ 44 ∷ 82 ∷ 79 ∷ 44 ∷ 78 ∷ 65 ∷ 125 ∷ 59 ∷ 10 ∷ 68 ∷ 83 ∷ 69 ∷ 71 ∷ 91 ∷ 51 ∷ 93 ∷ 61 ∷ 123 ∷ 47 ∷ 100 ∷ 100 ∷ 44 ∷ 48 ∷ 44 ∷ 82 ∷ 87 ∷ 44 ∷ 82 ∷ 79 ∷ 44 ∷ 78 ∷ 65 ∷ 125 ∷ 59 ∷ 10 ∷ 68 ∷ 83 ∷ 69 ∷ 71 ∷ 91 ∷ 52 ∷ 93 ∷ 61 ∷ 123 ∷ 47 ∷ 100 ∷ 101 ∷ 44 ∷ 48 ∷ 44 ∷ 82 ∷ 87 ∷ 44 ∷ 82 ∷ 79 ∷ 44 ∷ 78 ∷ 65 ∷ 125 ∷ 59 ∷ 10 ∷ 68 ∷ 83 ∷ 69 ∷ 71 ∷ 91 ∷ 53 ∷ 93 ∷ 61 ∷ 123 ∷ 47 ∷ 100 ∷ 102 ∷ 44 ∷ 48 ∷ 44 ∷ 82 ∷ 87 ∷ 44 ∷ 82 ∷ 79 ∷ 44 ∷ 78 ∷ 65 ∷ 125 ∷ 59 ∷ 10 ∷ 68 ∷ 83 ∷ 69 ∷ 71 ∷ 91 ∷ 54 ∷ 93 ∷ 61 ∷ 123 ∷ 47 ∷ 100 ∷ 103 ∷ 44 ∷ 48 ∷ 44 ∷ 82 ∷ 87 ∷ 44 ∷ 82 ∷ 79 ∷ 44 ∷ 78 ∷ 65 ∷ 125 ∷ 59 ∷ 10 ∷ 68 ∷ 83 ∷ 69 ∷ 71 ∷ 91 ∷ 55 ∷ 93 ∷ 61 ∷ 123 ∷ 47 ∷ 100 ∷ 104 ∷ 44 ∷ 48 ∷ 44 ∷ 82 ∷ 87 ∷ 44 ∷ 82 ∷ 79 ∷ 44 ∷ 78 ∷ 65 ∷ 125 ∷ 59 ∷ 10 ∷ 68 ∷ 83 ∷ 69 ∷ 71 ∷ 91 ∷ 56 ∷ 93 ∷ 61 ∷ 123 ∷ 47 ∷ 100 ∷ 105 ∷ 44 ∷ 48 ∷ 44 ∷ 82 ∷ 87 ∷ 44 ∷ 82 ∷ 79 ∷ 44 ∷ 78 ∷ 65 ∷ 125 ∷ 59 ∷ 10 ∷ 68 ∷ 83 ∷ 69 ∷ 71 ∷ 91 ∷ 57 ∷ 93 ∷ 61 ∷ 123 ∷ 47 ∷ 100 ∷ 106 ∷ 44 ∷ 48 ∷ 44 ∷ 82 ∷ 87 ∷ 44 ∷ 82 ∷ 79 ∷ 44 ∷ 78 ∷ 65 ∷ 125 ∷ 59 ∷ 10 ∷ 68 ∷ 83 ∷ 69 ∷ 71 ∷ 91 ∷ 49 ∷ 48 ∷ 93 ∷ 61 ∷ 123 ∷ 47 ∷ 100 ∷ 107 ∷ 44 ∷ 48 ∷ 44 ∷ 82 ∷ 87 ∷ 44 ∷ 82 ∷ 79 ∷ 44 ∷ 78 ∷ 65 ∷ 125 ∷ 59 ∷ 10 ∷ 68 ∷ 83 ∷ 69 ∷ 71 ∷ 91 ∷ 49 ∷ 49 ∷ 93 ∷ 61 ∷ 123 ∷ 47 ∷ 100 ∷ 108 ∷ 44 ∷ 48 ∷ 44 ∷ 82 ∷ 87 ∷ 44 ∷ 82 ∷ 79 ∷ 44 ∷ 78 ∷ 65 ∷ 125 ∷ 59 ∷ 10 ∷ 68 ∷ 83 ∷ 69 ∷ 71 ∷ 91 ∷ 49 ∷ 50 ∷ 93 ∷ 61 ∷ 123 ∷ 47 ∷ 100 ∷ 109 ∷ 44 ∷ 48 ∷ 44 ∷ 82 ∷ 87 ∷ 44 ∷ 82 ∷ 79 ∷ 44 ∷ 78 ∷ 65 ∷ 125 ∷ 59 ∷ 10 ∷ 68 ∷ 83 ∷ 69 ∷ 71 ∷ 91 ∷ 49 ∷ 51 ∷ 93 ∷ 61 ∷ 123 ∷ 47 ∷ 100 ∷ 110 ∷ 44 ∷ 48 ∷ 44 ∷ 82 ∷ 87 ∷ 44 ∷ 82 ∷ 79 ∷ 44 ∷ 78 ∷ 65 ∷ 125 ∷ 59 ∷ 10 ∷ 68 ∷ 83 ∷ 69 ∷ 71 ∷ 91 ∷ 49 ∷ 52 ∷ 93 ∷ 61 ∷ 123 ∷ 47 ∷ 100 ∷ 111 ∷ 44 ∷ 48 ∷ 44 ∷ 82 ∷ 87 ∷ 44 ∷ 82 ∷ 79 ∷ 44 ∷ 78 ∷ 65 ∷ 125 ∷ 59 ∷ 10 ∷ 68 ∷ 83 ∷ 69 ∷ 71 ∷ 91 ∷ 49 ∷ 53 ∷ 93 ∷ 61 ∷ 123 ∷ 47 ∷ 100 ∷ 112 ∷ 44 ∷ 48 ∷ 44 ∷ 82 ∷ 87 ∷ 44 ∷ 82 ∷ 79 ∷ 44 ∷ 78 ∷ 65 ∷ 125 ∷ 59 ∷ 10 ∷ 68 ∷ 83 ∷ 69 ∷ 71 ∷ 91 ∷ 49 ∷ 54 ∷ 93 ∷ 61 ∷ 123 ∷ 47 ∷ 100 ∷ 113 ∷ 44 ∷ 48 ∷ 44 ∷ 82 ∷ 87 ∷ 44 ∷ 82 ∷ 79 ∷ 44 ∷ 78 ∷ 65 ∷ 125 ∷ 59 ∷ []) ∷
    -- active host NA: 413
    point 413 2 (67 ∷ 79 ∷ 68 ∷ 69 ∷ 91 ∷ 48 ∷ 93 ∷ 61 ∷ 47 ∷ 97 ∷ 59 ∷ 67 ∷ 79 ∷ 68 ∷ 69 ∷ 91 ∷ 49 ∷ 93 ∷ 61 ∷ 47 ∷ 98 ∷ 59 ∷ 10 ∷ 68 ∷ 83 ∷ 69 ∷ 71 ∷ 91 ∷ 48 ∷ 93 ∷ 61 ∷ 123 ∷ 47 ∷ 99 ∷ 44 ∷ 48 ∷ 44 ∷ 78 ∷ 65 ∷ 44 ∷ 82 ∷ 87 ∷ 44 ∷ 82 ∷ 87 ∷ 125 ∷ 59 ∷ []) ∷
    -- passive host NA: fine
    point 0 0 (67 ∷ 79 ∷ 68 ∷ 69 ∷ 91 ∷ 48 ∷ 93 ∷ 61 ∷ 47 ∷ 97 ∷ 59 ∷ 67 ∷ 79 ∷ 68 ∷ 69 ∷ 91 ∷ 49 ∷ 93 ∷ 61 ∷ 47 ∷ 98 ∷ 59 ∷ 10 ∷ 68 ∷ 83 ∷ 69 ∷ 71 ∷ 91 ∷ 48 ∷ 93 ∷ 61 ∷ 123 ∷ 47 ∷ 99 ∷ 44 ∷ 50 ∷ 44 ∷ 78 ∷ 65 ∷ 44 ∷ 82 ∷ 87 ∷ 44 ∷ 78 ∷ 65 ∷ 125 ∷ 59 ∷ []) ∷
    -- size 0: 412
    point 412 2 (67 ∷ 79 ∷ 68 ∷ 69 ∷ 91 ∷ 48 ∷ 93 ∷ 61 ∷ 47 ∷ 97 ∷ 59 ∷ 67 ∷ 79 ∷ 68 ∷ 69 ∷ 91 ∷ 49 ∷ 93 ∷ 61 ∷ 47 ∷ 98 ∷ 59 ∷ 10 ∷ 77 ∷ 83 ∷ 69 ∷ 71 ∷ 91 ∷ 48 ∷ 93 ∷ 61 ∷ 123 ∷ 48 ∷ 44 ∷ 50 ∷ 44 ∷ 78 ∷ 65 ∷ 44 ∷ 82 ∷ 87 ∷ 44 ∷ 78 ∷ 65 ∷ 125 ∷ 59 ∷ []) ∷
    -- size 16MB: fine
    point 0 0 (67 ∷ 79 ∷ 68 ∷ 69 ∷ 91 ∷ 48 ∷ 93 ∷ 61 ∷ 47 ∷ 97 ∷ 59 ∷ 67 ∷ 79 ∷ 68 ∷ 69 ∷ 91 ∷ 49 ∷ 93 ∷ 61 ∷ 47 ∷ 98 ∷ 59 ∷ 10 ∷ 77 ∷ 83 ∷ 69 ∷ 71 ∷ 91 ∷ 48 ∷ 93 ∷ 61 ∷ 123 ∷ 49 ∷ 54 ∷ 77 ∷ 66 ∷ 44 ∷ 50 ∷ 44 ∷ 78 ∷ 65 ∷ 44 ∷ 82 ∷ 87 ∷ 44 ∷ 78 ∷ 65 ∷ 125 ∷ 59 ∷ []) ∷
    -- 16MB plus one byte: 412
    point 412 2 (67 ∷ 79 ∷ 68 ∷ 69 ∷ 91 ∷ 48 ∷ 93 ∷ 61 ∷ 47 ∷ 97 ∷ 59 ∷ 67 ∷ 79 ∷ 68 ∷ 69 ∷ 91 ∷ 49 ∷ 93 ∷ 61 ∷ 47 ∷ 98 ∷ 59 ∷ 10 ∷ 77 ∷ 83 ∷ 69 ∷ 71 ∷ 91 ∷ 48 ∷ 93 ∷ 61 ∷ 123 ∷ 49 ∷ 54 ∷ 55 ∷ 55 ∷ 55 ∷ 50 ∷ 49 ∷ 55 ∷ 44 ∷ 50 ∷ 44 ∷ 78 ∷ 65 ∷ 44 ∷ 82 ∷ 87 ∷ 44 ∷ 78 ∷ 65 ∷ 125 ∷ 59 ∷ []) ∷ []

-- others
pub others : List Point
others =
    -- 01's own sample
    point 0 0 (67 ∷ 79 ∷ 68 ∷ 69 ∷ 91 ∷ 48 ∷ 93 ∷ 32 ∷ 61 ∷ 32 ∷ 47 ∷ 100 ∷ 101 ∷ 115 ∷ 107 ∷ 46 ∷ 111 ∷ 117 ∷ 116 ∷ 59 ∷ 10 ∷ 67 ∷ 79 ∷ 68 ∷ 69 ∷ 91 ∷ 49 ∷ 93 ∷ 32 ∷ 61 ∷ 32 ∷ 47 ∷ 97 ∷ 108 ∷ 97 ∷ 114 ∷ 109 ∷ 46 ∷ 111 ∷ 117 ∷ 116 ∷ 59 ∷ 10 ∷ 68 ∷ 83 ∷ 69 ∷ 71 ∷ 91 ∷ 48 ∷ 93 ∷ 32 ∷ 61 ∷ 32 ∷ 123 ∷ 32 ∷ 34 ∷ 47 ∷ 114 ∷ 111 ∷ 117 ∷ 116 ∷ 101 ∷ 32 ∷ 115 ∷ 104 ∷ 101 ∷ 101 ∷ 116 ∷ 46 ∷ 116 ∷ 120 ∷ 116 ∷ 34 ∷ 44 ∷ 32 ∷ 48 ∷ 44 ∷ 32 ∷ 82 ∷ 87 ∷ 44 ∷ 32 ∷ 82 ∷ 79 ∷ 44 ∷ 32 ∷ 78 ∷ 65 ∷ 32 ∷ 125 ∷ 59 ∷ 10 ∷ 77 ∷ 83 ∷ 69 ∷ 71 ∷ 91 ∷ 48 ∷ 93 ∷ 32 ∷ 61 ∷ 32 ∷ 123 ∷ 32 ∷ 50 ∷ 75 ∷ 66 ∷ 44 ∷ 32 ∷ 49 ∷ 44 ∷ 32 ∷ 78 ∷ 65 ∷ 44 ∷ 32 ∷ 82 ∷ 87 ∷ 44 ∷ 32 ∷ 78 ∷ 65 ∷ 32 ∷ 125 ∷ 59 ∷ 10 ∷ []) ∷
    -- a comment behind an unquoted path, and one inside quotes
    point 404 2 (67 ∷ 79 ∷ 68 ∷ 69 ∷ 91 ∷ 48 ∷ 93 ∷ 32 ∷ 61 ∷ 32 ∷ 47 ∷ 97 ∷ 35 ∷ 120 ∷ 10 ∷ 59 ∷ 67 ∷ 79 ∷ 68 ∷ 69 ∷ 91 ∷ 49 ∷ 93 ∷ 61 ∷ 34 ∷ 47 ∷ 98 ∷ 35 ∷ 34 ∷ 32 ∷ 59 ∷ []) ∷
    -- a dseg's host has NA, on the third line
    point 413 3 (67 ∷ 79 ∷ 68 ∷ 69 ∷ 91 ∷ 48 ∷ 93 ∷ 32 ∷ 61 ∷ 32 ∷ 47 ∷ 97 ∷ 59 ∷ 10 ∷ 67 ∷ 79 ∷ 68 ∷ 69 ∷ 91 ∷ 49 ∷ 93 ∷ 61 ∷ 47 ∷ 98 ∷ 59 ∷ 10 ∷ 68 ∷ 83 ∷ 69 ∷ 71 ∷ 91 ∷ 48 ∷ 93 ∷ 61 ∷ 123 ∷ 47 ∷ 99 ∷ 44 ∷ 48 ∷ 44 ∷ 78 ∷ 65 ∷ 44 ∷ 82 ∷ 87 ∷ 44 ∷ 82 ∷ 87 ∷ 125 ∷ 59 ∷ []) ∷
    -- an active partition has no CODE
    point 414 0 (67 ∷ 79 ∷ 68 ∷ 69 ∷ 91 ∷ 48 ∷ 93 ∷ 32 ∷ 61 ∷ 32 ∷ 47 ∷ 97 ∷ 59 ∷ []) ∷
    -- an empty text
    point 414 0 ([]) ∷
    -- out of order
    point 404 3 (67 ∷ 79 ∷ 68 ∷ 69 ∷ 91 ∷ 48 ∷ 93 ∷ 61 ∷ 47 ∷ 97 ∷ 59 ∷ 67 ∷ 79 ∷ 68 ∷ 69 ∷ 91 ∷ 49 ∷ 93 ∷ 61 ∷ 47 ∷ 98 ∷ 59 ∷ 10 ∷ 77 ∷ 83 ∷ 69 ∷ 71 ∷ 91 ∷ 48 ∷ 93 ∷ 61 ∷ 123 ∷ 49 ∷ 44 ∷ 48 ∷ 44 ∷ 82 ∷ 87 ∷ 44 ∷ 78 ∷ 65 ∷ 44 ∷ 78 ∷ 65 ∷ 125 ∷ 59 ∷ 10 ∷ 68 ∷ 83 ∷ 69 ∷ 71 ∷ 91 ∷ 48 ∷ 93 ∷ 61 ∷ 123 ∷ 47 ∷ 99 ∷ 44 ∷ 48 ∷ 44 ∷ 82 ∷ 87 ∷ 44 ∷ 78 ∷ 65 ∷ 44 ∷ 78 ∷ 65 ∷ 125 ∷ 59 ∷ []) ∷
    -- a reserved path
    point 410 1 (67 ∷ 79 ∷ 68 ∷ 69 ∷ 91 ∷ 48 ∷ 93 ∷ 61 ∷ 47 ∷ 115 ∷ 99 ∷ 111 ∷ 115 ∷ 47 ∷ 120 ∷ 59 ∷ []) ∷
    -- the same path twice
    point 409 2 (67 ∷ 79 ∷ 68 ∷ 69 ∷ 91 ∷ 48 ∷ 93 ∷ 61 ∷ 47 ∷ 97 ∷ 59 ∷ 67 ∷ 79 ∷ 68 ∷ 69 ∷ 91 ∷ 49 ∷ 93 ∷ 61 ∷ 47 ∷ 98 ∷ 59 ∷ 10 ∷ 68 ∷ 83 ∷ 69 ∷ 71 ∷ 91 ∷ 48 ∷ 93 ∷ 61 ∷ 123 ∷ 47 ∷ 97 ∷ 44 ∷ 48 ∷ 44 ∷ 82 ∷ 87 ∷ 44 ∷ 78 ∷ 65 ∷ 44 ∷ 78 ∷ 65 ∷ 125 ∷ 59 ∷ []) ∷ []

pub others_hold : map answered others ≡ others
unfolding others answered opened
others_hold = refl
