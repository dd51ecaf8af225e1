-- What the line of a segment says of it, and by which letter it calls it.
use Rattle.std.specs.Prelude.{List, ℕ}
use Rattle.lines.specs.Lines.{decimal, dseg, mseg}
use Rattle.lines.specs.declared.put.Entry.{Entry}
use Rattle.lines.specs.declared.put.Entry.TheVariants.{Dseg, Mseg}

abbrev pub letter_of : Entry → List ℕ
letter_of (Dseg path) = dseg
letter_of (Mseg size) = mseg

abbrev pub what_of : Entry → List ℕ
what_of (Dseg path) = path.now
what_of (Mseg size) = decimal size
