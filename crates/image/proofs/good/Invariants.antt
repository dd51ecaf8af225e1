-- `image::good` meets its contract: the image is good exactly where it is from the cursor on, at every turn. Assumes nothing.
use Rattle.std.proofs.Common.{◌≡◌, ◌-◌, length, drop}
use Rattle.rows.specs.Records.{chunks}
use Rattle.image.specs.Files.{good_in}
use Rattle.image.specs.Image.{good}
use Rattle.image.proofs.good.Given as goal

abbrev pub invariant-loop-title : goal.invariant-loop-title
invariant-loop-title l = good l.image ≡ good_in (chunks (drop l.cursor.at l.image))

abbrev pub decreases-loop-title : goal.decreases-loop-title
decreases-loop-title l = length l.image - l.cursor.at
