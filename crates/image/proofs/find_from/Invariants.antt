-- `image::find_from` meets its contract: what is found from the start is what is found from the cursor on, at every turn. Assumes nothing.
use Rattle.std.proofs.Common.{◌≡◌, ◌-◌, length, drop}
use Rattle.rows.specs.Records.{chunks}
use Rattle.image.specs.Files.{spot_in}
use Rattle.image.proofs.find_from.Given as goal

abbrev pub invariant-loop-title : goal.invariant-loop-title
invariant-loop-title l = spot_in l.path l.initial.cursor.at (chunks (drop l.initial.cursor.at l.image)) ≡ spot_in l.path l.cursor.at (chunks (drop l.cursor.at l.image))

abbrev pub decreases-loop-title : goal.decreases-loop-title
decreases-loop-title l = length l.image - l.cursor.at
