-- The lines of a row of dsegs or of msegs.
use Rattle.std.specs.Prelude.{List, ℕ}
use Rattle.lines.specs.Lines.{decimal, dseg, mseg}
use Rattle.octets.specs.Spans.{bytes_of}
use Rattle.setup.specs.declared.Segment.{Segment}
use Rattle.lister.specs.declared.lines_of.Kind.{Kind}
use Rattle.lister.specs.declared.lines_of.Kind.TheVariants.{Dsegs, Msegs}
use Rattle.lister.specs.Listing.{dseg_lines, mseg_lines}

abbrev pub letter : Kind → List ℕ
letter (Dsegs text) = dseg
letter Msegs = mseg

abbrev pub what : Kind → Segment → List ℕ
what (Dsegs text) segment = bytes_of text.now segment.path
what Msegs segment = decimal segment.size

abbrev pub row_lines : Kind → List Segment → ℕ → ℕ → List ℕ
row_lines (Dsegs text) segments p n = dseg_lines text.now segments p n
row_lines Msegs segments p n = mseg_lines segments p n
