use Rattle.std.specs.Prelude.{◌≡◌, refl, [], ◌∷◌}
use Rattle.octets.specs.Lists.{part, over, write_at, on_part, on_nth}
use Rattle.octets.specs.Same.{same_bytes}
use Rattle.text.specs.Gaps.{gap_from, token_place, line_feeds, line_of}
use Rattle.text.specs.Tokens.{run, word_at, decimal_from, number_from, number_at, sized, with_unit, size_at, path_of, quoted_path, bare_path, path_at}
use Rattle.statements.specs.Statements.{head_at, permission_at, packed, permissions_from, permissions_at, tail_at, code_at, dseg_at, mseg_at, statement_at}
use Rattle.checks.specs.Checks.{refused, after}
use Rattle.octets.specs.Spans.{bytes_of}
use Rattle.setup.specs.Setup.{begun, is_active, has_code, among, paths_of, path_taken, permission_of, permission_row, with_code, with_dseg, with_mseg}
use Rattle.setup.specs.Rules.{reserved, absent, some_writes, code_checks, dseg_checks, mseg_checks, code_missing, some_active, limits}
use Rattle.setup.specs.Reading.{settled, judged, judged_at, ended, read_from, read}
use Rattle.octets.specs.Search.{index_of, index_after}
use Rattle.lines.specs.Lines.{digits, decimal, header_line, permission, fields, line, refusal_line}
use Rattle.lister.specs.Listing.{dseg_lines, mseg_lines, lines_of, partition_lines, setup_lines, answer, only_letters, letter_a, flags, answer_to, listing, shown, listed}

sample : listing (65 ∷ 65 ∷ 80 ∷ 10 ∷ 67 ∷ 79 ∷ 68 ∷ 69 ∷ 91 ∷ 48 ∷ 93 ∷ 32 ∷ 61 ∷ 32 ∷ 47 ∷ 100 ∷ 101 ∷ 115 ∷ 107 ∷ 46 ∷ 111 ∷ 117 ∷ 116 ∷ 59 ∷ 10 ∷ 67 ∷ 79 ∷ 68 ∷ 69 ∷ 91 ∷ 49 ∷ 93 ∷ 32 ∷ 61 ∷ 32 ∷ 47 ∷ 97 ∷ 108 ∷ 97 ∷ 114 ∷ 109 ∷ 46 ∷ 111 ∷ 117 ∷ 116 ∷ 59 ∷ 10 ∷ 68 ∷ 83 ∷ 69 ∷ 71 ∷ 91 ∷ 48 ∷ 93 ∷ 32 ∷ 61 ∷ 32 ∷ 123 ∷ 32 ∷ 34 ∷ 47 ∷ 114 ∷ 111 ∷ 117 ∷ 116 ∷ 101 ∷ 32 ∷ 115 ∷ 104 ∷ 101 ∷ 101 ∷ 116 ∷ 46 ∷ 116 ∷ 120 ∷ 116 ∷ 34 ∷ 44 ∷ 32 ∷ 48 ∷ 44 ∷ 32 ∷ 82 ∷ 87 ∷ 44 ∷ 32 ∷ 82 ∷ 79 ∷ 44 ∷ 32 ∷ 78 ∷ 65 ∷ 32 ∷ 125 ∷ 59 ∷ 10 ∷ 77 ∷ 83 ∷ 69 ∷ 71 ∷ 91 ∷ 48 ∷ 93 ∷ 32 ∷ 61 ∷ 32 ∷ 123 ∷ 32 ∷ 50 ∷ 75 ∷ 66 ∷ 44 ∷ 32 ∷ 49 ∷ 44 ∷ 32 ∷ 78 ∷ 65 ∷ 44 ∷ 32 ∷ 82 ∷ 87 ∷ 44 ∷ 32 ∷ 78 ∷ 65 ∷ 32 ∷ 125 ∷ 59 ∷ 10 ∷ []) ≡ 112 ∷ 97 ∷ 114 ∷ 116 ∷ 105 ∷ 116 ∷ 105 ∷ 111 ∷ 110 ∷ 115 ∷ 32 ∷ 51 ∷ 32 ∷ 100 ∷ 115 ∷ 101 ∷ 103 ∷ 115 ∷ 32 ∷ 49 ∷ 32 ∷ 109 ∷ 115 ∷ 101 ∷ 103 ∷ 115 ∷ 32 ∷ 49 ∷ 10 ∷ 48 ∷ 32 ∷ 68 ∷ 32 ∷ 48 ∷ 32 ∷ 82 ∷ 87 ∷ 32 ∷ 47 ∷ 114 ∷ 111 ∷ 117 ∷ 116 ∷ 101 ∷ 32 ∷ 115 ∷ 104 ∷ 101 ∷ 101 ∷ 116 ∷ 46 ∷ 116 ∷ 120 ∷ 116 ∷ 10 ∷ 49 ∷ 32 ∷ 68 ∷ 32 ∷ 48 ∷ 32 ∷ 82 ∷ 79 ∷ 32 ∷ 47 ∷ 114 ∷ 111 ∷ 117 ∷ 116 ∷ 101 ∷ 32 ∷ 115 ∷ 104 ∷ 101 ∷ 101 ∷ 116 ∷ 46 ∷ 116 ∷ 120 ∷ 116 ∷ 10 ∷ 49 ∷ 32 ∷ 77 ∷ 32 ∷ 48 ∷ 32 ∷ 82 ∷ 87 ∷ 32 ∷ 50 ∷ 48 ∷ 52 ∷ 56 ∷ 10 ∷ []
unfolding part over write_at on_part on_nth same_bytes gap_from token_place line_feeds line_of run word_at decimal_from number_from number_at sized with_unit size_at path_of quoted_path bare_path path_at head_at permission_at packed permissions_from permissions_at tail_at code_at dseg_at mseg_at statement_at refused after begun is_active bytes_of has_code among paths_of path_taken permission_of permission_row with_code with_dseg with_mseg reserved absent some_writes code_checks dseg_checks mseg_checks code_missing some_active limits settled judged judged_at ended read_from read index_of index_after digits decimal header_line permission fields line dseg_lines mseg_lines lines_of partition_lines setup_lines refusal_line answer only_letters letter_a flags answer_to listing shown listed
sample = refl

bad-row : listing (65 ∷ 88 ∷ 10 ∷ 67 ∷ 79 ∷ 68 ∷ 69 ∷ []) ≡ 114 ∷ 101 ∷ 102 ∷ 117 ∷ 115 ∷ 101 ∷ 100 ∷ 32 ∷ 52 ∷ 48 ∷ 49 ∷ 32 ∷ 108 ∷ 105 ∷ 110 ∷ 101 ∷ 32 ∷ 48 ∷ 10 ∷ []
unfolding part over write_at on_part on_nth same_bytes gap_from token_place line_feeds line_of run word_at decimal_from number_from number_at sized with_unit size_at path_of quoted_path bare_path path_at head_at permission_at packed permissions_from permissions_at tail_at code_at dseg_at mseg_at statement_at refused after begun is_active bytes_of has_code among paths_of path_taken permission_of permission_row with_code with_dseg with_mseg reserved absent some_writes code_checks dseg_checks mseg_checks code_missing some_active limits settled judged judged_at ended read_from read index_of index_after digits decimal header_line permission fields line dseg_lines mseg_lines lines_of partition_lines setup_lines refusal_line answer only_letters letter_a flags answer_to listing shown listed
bad-row = refl

no_feed : listing (65 ∷ 65 ∷ 80 ∷ []) ≡ 114 ∷ 101 ∷ 102 ∷ 117 ∷ 115 ∷ 101 ∷ 100 ∷ 32 ∷ 52 ∷ 48 ∷ 49 ∷ 32 ∷ 108 ∷ 105 ∷ 110 ∷ 101 ∷ 32 ∷ 48 ∷ 10 ∷ []
unfolding part over write_at on_part on_nth same_bytes gap_from token_place line_feeds line_of run word_at decimal_from number_from number_at sized with_unit size_at path_of quoted_path bare_path path_at head_at permission_at packed permissions_from permissions_at tail_at code_at dseg_at mseg_at statement_at refused after begun is_active bytes_of has_code among paths_of path_taken permission_of permission_row with_code with_dseg with_mseg reserved absent some_writes code_checks dseg_checks mseg_checks code_missing some_active limits settled judged judged_at ended read_from read index_of index_after digits decimal header_line permission fields line dseg_lines mseg_lines lines_of partition_lines setup_lines refusal_line answer only_letters letter_a flags answer_to listing shown listed
no_feed = refl

third_line : listing (65 ∷ 65 ∷ 80 ∷ 10 ∷ 67 ∷ 79 ∷ 68 ∷ 69 ∷ 91 ∷ 48 ∷ 93 ∷ 61 ∷ 47 ∷ 97 ∷ 59 ∷ 10 ∷ 67 ∷ 79 ∷ 68 ∷ 69 ∷ 91 ∷ 49 ∷ 93 ∷ 61 ∷ 47 ∷ 98 ∷ 59 ∷ 10 ∷ 68 ∷ 83 ∷ 69 ∷ 71 ∷ 91 ∷ 48 ∷ 93 ∷ 61 ∷ 123 ∷ 47 ∷ 99 ∷ 44 ∷ 48 ∷ 44 ∷ 78 ∷ 65 ∷ 44 ∷ 82 ∷ 87 ∷ 44 ∷ 82 ∷ 87 ∷ 125 ∷ 59 ∷ []) ≡ 114 ∷ 101 ∷ 102 ∷ 117 ∷ 115 ∷ 101 ∷ 100 ∷ 32 ∷ 52 ∷ 49 ∷ 51 ∷ 32 ∷ 108 ∷ 105 ∷ 110 ∷ 101 ∷ 32 ∷ 51 ∷ 10 ∷ []
unfolding part over write_at on_part on_nth same_bytes gap_from token_place line_feeds line_of run word_at decimal_from number_from number_at sized with_unit size_at path_of quoted_path bare_path path_at head_at permission_at packed permissions_from permissions_at tail_at code_at dseg_at mseg_at statement_at refused after begun is_active bytes_of has_code among paths_of path_taken permission_of permission_row with_code with_dseg with_mseg reserved absent some_writes code_checks dseg_checks mseg_checks code_missing some_active limits settled judged judged_at ended read_from read index_of index_after digits decimal header_line permission fields line dseg_lines mseg_lines lines_of partition_lines setup_lines refusal_line answer only_letters letter_a flags answer_to listing shown listed
third_line = refl

nine : listing (65 ∷ 65 ∷ 65 ∷ 65 ∷ 65 ∷ 65 ∷ 65 ∷ 65 ∷ 65 ∷ 10 ∷ []) ≡ 114 ∷ 101 ∷ 102 ∷ 117 ∷ 115 ∷ 101 ∷ 100 ∷ 32 ∷ 52 ∷ 48 ∷ 49 ∷ 32 ∷ 108 ∷ 105 ∷ 110 ∷ 101 ∷ 32 ∷ 48 ∷ 10 ∷ []
unfolding part over write_at on_part on_nth same_bytes gap_from token_place line_feeds line_of run word_at decimal_from number_from number_at sized with_unit size_at path_of quoted_path bare_path path_at head_at permission_at packed permissions_from permissions_at tail_at code_at dseg_at mseg_at statement_at refused after begun is_active bytes_of has_code among paths_of path_taken permission_of permission_row with_code with_dseg with_mseg reserved absent some_writes code_checks dseg_checks mseg_checks code_missing some_active limits settled judged judged_at ended read_from read index_of index_after digits decimal header_line permission fields line dseg_lines mseg_lines lines_of partition_lines setup_lines refusal_line answer only_letters letter_a flags answer_to listing shown listed
nine = refl
