-- Points of the set-up text, computed from the definitions.
use Rattle.std.specs.Prelude.{[], ◌∷◌, ◌≡◌, refl, Some, None}
use Rattle.octets.specs.Lists.{part}
use Rattle.octets.specs.Same.{same_bytes}
use Rattle.octets.specs.Spans.{span}
use Rattle.text.specs.Gaps.{gap_from, token_place, line_feeds, line_of}
use Rattle.text.specs.Comments.{blanked_from, blanked}
use Rattle.text.specs.Tokens.{run, word_at, decimal_from, number_from, number_at, sized, with_unit, size_at, path_of, quoted_path, bare_path, path_at}

-- Gaps: where the first token stands.
pub gaps :
    -- '' from place 0: an empty text ends at once
    (token_place ([]) 0 ≡ 0)
    -- '' from place 7: a place behind the end
    × (token_place ([]) 7 ≡ 7)
    -- ' \t\n;' from place 0: space, tab and line feed separate
    × (token_place (32 ∷ 9 ∷ 10 ∷ 59 ∷ []) 0 ≡ 3)
    -- '#a\n;' from place 0: a comment up to the line's end
    × (token_place (35 ∷ 97 ∷ 10 ∷ 59 ∷ []) 0 ≡ 3)
    -- '# \r\x80#\n #\n;' from place 0: a comment holds any byte, also a second '#'
    × (token_place (35 ∷ 32 ∷ 13 ∷ 128 ∷ 35 ∷ 10 ∷ 32 ∷ 35 ∷ 10 ∷ 59 ∷ []) 0 ≡ 9)
    -- '#a' from place 0: a comment that the text ends
    × (token_place (35 ∷ 97 ∷ []) 0 ≡ 2)
    -- ' \r\n;' from place 0: a carriage return outside a comment ends the gap
    × (token_place (32 ∷ 13 ∷ 10 ∷ 59 ∷ []) 0 ≡ 1)
    -- 'a #b\nc' from place 1: from behind a token
    × (token_place (97 ∷ 32 ∷ 35 ∷ 98 ∷ 10 ∷ 99 ∷ []) 1 ≡ 5)
unfolding gap_from token_place line_feeds line_of blanked_from blanked run word_at decimal_from number_from number_at sized with_unit size_at path_of quoted_path bare_path path_at part same_bytes
gaps = (refl, refl, refl, refl, refl, refl, refl, refl)

-- Lines.
pub lines :
    -- '', place 0: lines count from 1
    (line_of ([]) 0 ≡ 1)
    -- 'a\nb', place 1: the line feed is the last byte of its line
    × (line_of (97 ∷ 10 ∷ 98 ∷ []) 1 ≡ 1)
    -- 'a\nb', place 2: behind it
    × (line_of (97 ∷ 10 ∷ 98 ∷ []) 2 ≡ 2)
    -- '#\n\nb', place 3: line feeds of comments count
    × (line_of (35 ∷ 10 ∷ 10 ∷ 98 ∷ []) 3 ≡ 3)
    -- 'a\n', place 9: a place behind the end
    × (line_of (97 ∷ 10 ∷ []) 9 ≡ 2)
unfolding gap_from token_place line_feeds line_of blanked_from blanked run word_at decimal_from number_from number_at sized with_unit size_at path_of quoted_path bare_path path_at part same_bytes
lines = (refl, refl, refl, refl, refl)

-- Words and marks.
pub words :
    -- 'CODE' in ' #x\nCODE[': behind a gap
    (word_at (67 ∷ 79 ∷ 68 ∷ 69 ∷ []) (32 ∷ 35 ∷ 120 ∷ 10 ∷ 67 ∷ 79 ∷ 68 ∷ 69 ∷ 91 ∷ []) 0 ≡ Some 8)
    -- 'CODE' in 'CODES': by its bytes alone
    × (word_at (67 ∷ 79 ∷ 68 ∷ 69 ∷ []) (67 ∷ 79 ∷ 68 ∷ 69 ∷ 83 ∷ []) 0 ≡ Some 4)
    -- 'CODE' in 'COD': cut by the end
    × (word_at (67 ∷ 79 ∷ 68 ∷ 69 ∷ []) (67 ∷ 79 ∷ 68 ∷ []) 0 ≡ None)
    -- 'CODE' in 'Code': upper case
    × (word_at (67 ∷ 79 ∷ 68 ∷ 69 ∷ []) (67 ∷ 111 ∷ 100 ∷ 101 ∷ []) 0 ≡ None)
    -- 'CODE' in 'CO DE': no gap inside
    × (word_at (67 ∷ 79 ∷ 68 ∷ 69 ∷ []) (67 ∷ 79 ∷ 32 ∷ 68 ∷ 69 ∷ []) 0 ≡ None)
    -- ']' in ']': at the end
    × (word_at (93 ∷ []) (93 ∷ []) 0 ≡ Some 1)
    -- ']' in ']': behind the end
    × (word_at (93 ∷ []) (93 ∷ []) 5 ≡ None)
unfolding gap_from token_place line_feeds line_of blanked_from blanked run word_at decimal_from number_from number_at sized with_unit size_at path_of quoted_path bare_path path_at part same_bytes
words = (refl, refl, refl, refl, refl, refl, refl)

-- Numbers.
pub numbers :
    -- '0': a digit
    (number_at (48 ∷ []) 0 ≡ Some (0, 1))
    -- '4294967295': the largest
    × (number_at (52 ∷ 50 ∷ 57 ∷ 52 ∷ 57 ∷ 54 ∷ 55 ∷ 50 ∷ 57 ∷ 53 ∷ []) 0 ≡ Some (4294967295, 10))
    -- '4294967296': one more
    × (number_at (52 ∷ 50 ∷ 57 ∷ 52 ∷ 57 ∷ 54 ∷ 55 ∷ 50 ∷ 57 ∷ 54 ∷ []) 0 ≡ None)
    -- '99999999999999999999': far above
    × (number_at (57 ∷ 57 ∷ 57 ∷ 57 ∷ 57 ∷ 57 ∷ 57 ∷ 57 ∷ 57 ∷ 57 ∷ 57 ∷ 57 ∷ 57 ∷ 57 ∷ 57 ∷ 57 ∷ 57 ∷ 57 ∷ 57 ∷ 57 ∷ []) 0 ≡ None)
    -- '000000000000000000000000000000000000000017,': leading zeros
    × (number_at (48 ∷ 48 ∷ 48 ∷ 48 ∷ 48 ∷ 48 ∷ 48 ∷ 48 ∷ 48 ∷ 48 ∷ 48 ∷ 48 ∷ 48 ∷ 48 ∷ 48 ∷ 48 ∷ 48 ∷ 48 ∷ 48 ∷ 48 ∷ 48 ∷ 48 ∷ 48 ∷ 48 ∷ 48 ∷ 48 ∷ 48 ∷ 48 ∷ 48 ∷ 48 ∷ 48 ∷ 48 ∷ 48 ∷ 48 ∷ 48 ∷ 48 ∷ 48 ∷ 48 ∷ 48 ∷ 48 ∷ 49 ∷ 55 ∷ 44 ∷ []) 0 ≡ Some (17, 42))
    -- '00000000000000000000000000000000000000004294967296': leading zeros change nothing
    × (number_at (48 ∷ 48 ∷ 48 ∷ 48 ∷ 48 ∷ 48 ∷ 48 ∷ 48 ∷ 48 ∷ 48 ∷ 48 ∷ 48 ∷ 48 ∷ 48 ∷ 48 ∷ 48 ∷ 48 ∷ 48 ∷ 48 ∷ 48 ∷ 48 ∷ 48 ∷ 48 ∷ 48 ∷ 48 ∷ 48 ∷ 48 ∷ 48 ∷ 48 ∷ 48 ∷ 48 ∷ 48 ∷ 48 ∷ 48 ∷ 48 ∷ 48 ∷ 48 ∷ 48 ∷ 48 ∷ 48 ∷ 52 ∷ 50 ∷ 57 ∷ 52 ∷ 57 ∷ 54 ∷ 55 ∷ 50 ∷ 57 ∷ 54 ∷ []) 0 ≡ None)
    -- '': no digit
    × (number_at ([]) 0 ≡ None)
    -- 'x1': no digit first
    × (number_at (120 ∷ 49 ∷ []) 0 ≡ None)
    -- ' #\n12]': behind a gap
    × (number_at (32 ∷ 35 ∷ 10 ∷ 49 ∷ 50 ∷ 93 ∷ []) 0 ≡ Some (12, 5))
    -- '1#2\n3': a comment ends it
    × (number_at (49 ∷ 35 ∷ 50 ∷ 10 ∷ 51 ∷ []) 0 ≡ Some (1, 1))
    -- '1KB': the unit is left
    × (number_at (49 ∷ 75 ∷ 66 ∷ []) 0 ≡ Some (1, 1))
unfolding gap_from token_place line_feeds line_of blanked_from blanked run word_at decimal_from number_from number_at sized with_unit size_at path_of quoted_path bare_path path_at part same_bytes
numbers = (refl, refl, refl, refl, refl, refl, refl, refl, refl, refl, refl)

-- Sizes.
pub sizes :
    -- '2KB': 1024
    (size_at (50 ∷ 75 ∷ 66 ∷ []) 0 ≡ Some (2048, 3))
    -- '16MB;': 1024²
    × (size_at (49 ∷ 54 ∷ 77 ∷ 66 ∷ 59 ∷ []) 0 ≡ Some (16777216, 4))
    -- '4294967295GB': 1024³ of the largest number
    × (size_at (52 ∷ 50 ∷ 57 ∷ 52 ∷ 57 ∷ 54 ∷ 55 ∷ 50 ∷ 57 ∷ 53 ∷ 71 ∷ 66 ∷ []) 0 ≡ Some (4611686017353646080, 12))
    -- '4294967296KB': the digits alone are judged
    × (size_at (52 ∷ 50 ∷ 57 ∷ 52 ∷ 57 ∷ 54 ∷ 55 ∷ 50 ∷ 57 ∷ 54 ∷ 75 ∷ 66 ∷ []) 0 ≡ None)
    -- '0GB': none
    × (size_at (48 ∷ 71 ∷ 66 ∷ []) 0 ≡ Some (0, 3))
    -- '2 KB': not directly behind it
    × (size_at (50 ∷ 32 ∷ 75 ∷ 66 ∷ []) 0 ≡ Some (2, 1))
    -- '2K': half a unit
    × (size_at (50 ∷ 75 ∷ []) 0 ≡ Some (2, 1))
    -- '2kb': upper case
    × (size_at (50 ∷ 107 ∷ 98 ∷ []) 0 ≡ Some (2, 1))
    -- '2#\nKB': a comment between
    × (size_at (50 ∷ 35 ∷ 10 ∷ 75 ∷ 66 ∷ []) 0 ≡ Some (2, 1))
unfolding gap_from token_place line_feeds line_of blanked_from blanked run word_at decimal_from number_from number_at sized with_unit size_at path_of quoted_path bare_path path_at part same_bytes
sizes = (refl, refl, refl, refl, refl, refl, refl, refl, refl)

-- Paths.
pub paths :
    -- /a;: unquoted
    (path_at (47 ∷ 97 ∷ 59 ∷ []) 0 ≡ Some (span 0 2, 2))
    -- "/a";: quoted
    × (path_at (34 ∷ 47 ∷ 97 ∷ 34 ∷ 59 ∷ []) 0 ≡ Some (span 1 2, 4))
    -- "/a b,;{}c": quoted: space, comma, semicolon and braces
    × (path_at (34 ∷ 47 ∷ 97 ∷ 32 ∷ 98 ∷ 44 ∷ 59 ∷ 123 ∷ 125 ∷ 99 ∷ 34 ∷ []) 0 ≡ Some (span 1 9, 11))
    -- /a b: a space ends it
    × (path_at (47 ∷ 97 ∷ 32 ∷ 98 ∷ []) 0 ≡ Some (span 0 2, 2))
    -- /a=[]': '=', '[', ']' and an apostrophe
    × (path_at (47 ∷ 97 ∷ 61 ∷ 91 ∷ 93 ∷ 39 ∷ []) 0 ≡ Some (span 0 6, 6))
    -- "/a#x": unclosed: the comment begins inside the quote marks
    × (path_at (34 ∷ 47 ∷ 97 ∷ 35 ∷ 120 ∷ 34 ∷ []) 0 ≡ None)
    -- "/a#x"\n": unclosed: the line feed is no path's byte
    × (path_at (34 ∷ 47 ∷ 97 ∷ 35 ∷ 120 ∷ 34 ∷ 10 ∷ 34 ∷ []) 0 ≡ None)
    -- /a#x\n;: the comment ends it
    × (path_at (47 ∷ 97 ∷ 35 ∷ 120 ∷ 10 ∷ 59 ∷ []) 0 ≡ Some (span 0 2, 2))
    -- "/a: unclosed at the end
    × (path_at (34 ∷ 47 ∷ 97 ∷ []) 0 ≡ None)
    -- "": nothing in quote marks
    × (path_at (34 ∷ 34 ∷ []) 0 ≡ None)
    -- "/": one byte
    × (path_at (34 ∷ 47 ∷ 34 ∷ []) 0 ≡ None)
    -- /: one byte
    × (path_at (47 ∷ []) 0 ≡ None)
    -- /aaa..: 63 bytes
    × (path_at (47 ∷ 97 ∷ 97 ∷ 97 ∷ 97 ∷ 97 ∷ 97 ∷ 97 ∷ 97 ∷ 97 ∷ 97 ∷ 97 ∷ 97 ∷ 97 ∷ 97 ∷ 97 ∷ 97 ∷ 97 ∷ 97 ∷ 97 ∷ 97 ∷ 97 ∷ 97 ∷ 97 ∷ 97 ∷ 97 ∷ 97 ∷ 97 ∷ 97 ∷ 97 ∷ 97 ∷ 97 ∷ 97 ∷ 97 ∷ 97 ∷ 97 ∷ 97 ∷ 97 ∷ 97 ∷ 97 ∷ 97 ∷ 97 ∷ 97 ∷ 97 ∷ 97 ∷ 97 ∷ 97 ∷ 97 ∷ 97 ∷ 97 ∷ 97 ∷ 97 ∷ 97 ∷ 97 ∷ 97 ∷ 97 ∷ 97 ∷ 97 ∷ 97 ∷ 97 ∷ 97 ∷ 97 ∷ 97 ∷ []) 0 ≡ Some (span 0 63, 63))
    -- /aaa..: 64 bytes
    × (path_at (47 ∷ 97 ∷ 97 ∷ 97 ∷ 97 ∷ 97 ∷ 97 ∷ 97 ∷ 97 ∷ 97 ∷ 97 ∷ 97 ∷ 97 ∷ 97 ∷ 97 ∷ 97 ∷ 97 ∷ 97 ∷ 97 ∷ 97 ∷ 97 ∷ 97 ∷ 97 ∷ 97 ∷ 97 ∷ 97 ∷ 97 ∷ 97 ∷ 97 ∷ 97 ∷ 97 ∷ 97 ∷ 97 ∷ 97 ∷ 97 ∷ 97 ∷ 97 ∷ 97 ∷ 97 ∷ 97 ∷ 97 ∷ 97 ∷ 97 ∷ 97 ∷ 97 ∷ 97 ∷ 97 ∷ 97 ∷ 97 ∷ 97 ∷ 97 ∷ 97 ∷ 97 ∷ 97 ∷ 97 ∷ 97 ∷ 97 ∷ 97 ∷ 97 ∷ 97 ∷ 97 ∷ 97 ∷ 97 ∷ 97 ∷ []) 0 ≡ None)
    -- "/aa..: 63 bytes in quote marks
    × (path_at (34 ∷ 47 ∷ 97 ∷ 97 ∷ 97 ∷ 97 ∷ 97 ∷ 97 ∷ 97 ∷ 97 ∷ 97 ∷ 97 ∷ 97 ∷ 97 ∷ 97 ∷ 97 ∷ 97 ∷ 97 ∷ 97 ∷ 97 ∷ 97 ∷ 97 ∷ 97 ∷ 97 ∷ 97 ∷ 97 ∷ 97 ∷ 97 ∷ 97 ∷ 97 ∷ 97 ∷ 97 ∷ 97 ∷ 97 ∷ 97 ∷ 97 ∷ 97 ∷ 97 ∷ 97 ∷ 97 ∷ 97 ∷ 97 ∷ 97 ∷ 97 ∷ 97 ∷ 97 ∷ 97 ∷ 97 ∷ 97 ∷ 97 ∷ 97 ∷ 97 ∷ 97 ∷ 97 ∷ 97 ∷ 97 ∷ 97 ∷ 97 ∷ 97 ∷ 97 ∷ 97 ∷ 97 ∷ 97 ∷ 97 ∷ 34 ∷ []) 0 ≡ Some (span 1 63, 65))
    -- "/aa..: 64 bytes in quote marks
    × (path_at (34 ∷ 47 ∷ 97 ∷ 97 ∷ 97 ∷ 97 ∷ 97 ∷ 97 ∷ 97 ∷ 97 ∷ 97 ∷ 97 ∷ 97 ∷ 97 ∷ 97 ∷ 97 ∷ 97 ∷ 97 ∷ 97 ∷ 97 ∷ 97 ∷ 97 ∷ 97 ∷ 97 ∷ 97 ∷ 97 ∷ 97 ∷ 97 ∷ 97 ∷ 97 ∷ 97 ∷ 97 ∷ 97 ∷ 97 ∷ 97 ∷ 97 ∷ 97 ∷ 97 ∷ 97 ∷ 97 ∷ 97 ∷ 97 ∷ 97 ∷ 97 ∷ 97 ∷ 97 ∷ 97 ∷ 97 ∷ 97 ∷ 97 ∷ 97 ∷ 97 ∷ 97 ∷ 97 ∷ 97 ∷ 97 ∷ 97 ∷ 97 ∷ 97 ∷ 97 ∷ 97 ∷ 97 ∷ 97 ∷ 97 ∷ 97 ∷ 34 ∷ []) 0 ≡ None)
    -- "/a\tb": a tab in quote marks
    × (path_at (34 ∷ 47 ∷ 97 ∷ 9 ∷ 98 ∷ 34 ∷ []) 0 ≡ None)
    -- a/b: no '/' first
    × (path_at (97 ∷ 47 ∷ 98 ∷ []) 0 ≡ None)
    -- /a": a quote mark ends it
    × (path_at (47 ∷ 97 ∷ 34 ∷ []) 0 ≡ Some (span 0 2, 2))
    -- /a\x7f: 127 is no path's byte
    × (path_at (47 ∷ 97 ∷ 127 ∷ []) 0 ≡ Some (span 0 2, 2))
    -- : no byte
    × (path_at ([]) 0 ≡ None)
    -- "/a"b: what stands behind is not its business
    × (path_at (34 ∷ 47 ∷ 97 ∷ 34 ∷ 98 ∷ []) 0 ≡ Some (span 1 2, 4))
unfolding gap_from token_place line_feeds line_of blanked_from blanked run word_at decimal_from number_from number_at sized with_unit size_at path_of quoted_path bare_path path_at part same_bytes
paths = (refl, refl, refl, refl, refl, refl, refl, refl, refl, refl, refl, refl, refl, refl, refl, refl, refl, refl, refl, refl, refl, refl)

-- Comments taken out.
pub comments :
    -- 'a#b\nc': up to the line feed, which stays
    (blanked (97 ∷ 35 ∷ 98 ∷ 10 ∷ 99 ∷ []) ≡ 97 ∷ 32 ∷ 32 ∷ 10 ∷ 99 ∷ [])
    -- '"#"\n#': also inside quote marks, also at the end
    × (blanked (34 ∷ 35 ∷ 34 ∷ 10 ∷ 35 ∷ []) ≡ 34 ∷ 32 ∷ 32 ∷ 10 ∷ 32 ∷ [])
    -- '#\r#\n\r': a carriage return and a second '#'
    × (blanked (35 ∷ 13 ∷ 35 ∷ 10 ∷ 13 ∷ []) ≡ 32 ∷ 32 ∷ 32 ∷ 10 ∷ 13 ∷ [])
unfolding gap_from token_place line_feeds line_of blanked_from blanked run word_at decimal_from number_from number_at sized with_unit size_at path_of quoted_path bare_path path_at part same_bytes
comments = (refl, refl, refl)
