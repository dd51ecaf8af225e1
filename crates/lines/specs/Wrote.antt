-- What it is to write a text into a row from a place on: what does not fit is dropped, and the place behind it is counted all the same.
use Rattle.std.specs.Prelude.{List, ◌≡◌, ℕ, ◌+◌, ◌<◌, min, length}
use Rattle.octets.specs.Lists.{write_at}
use Rattle.lines.specs.declared.output.Output.{Output}

-- No row is as long as this, so that a place that is not counted any further is as good as one behind the end.
unfoldable pub most : ℕ
most = 9223372036854775808

-- `new` is `old` with `text` from place `at` on, and r the place behind it
pub record Wrote (at : ℕ) (text old new : List ℕ) (r : ℕ) : Type 0 where
  pub written : new ≡ write_at at text old
  pub place : r ≡ min (at + length text) most
  pub room : length old < most

-- the same of an output, which goes on lending the same row
pub record Put (text : List ℕ) (old new : Output) : Type 0 where
  pub wrote : Wrote old.at text old.row.now new.row.now new.at
  pub same_row : new.row.ghost_name ≡ old.row.ghost_name
