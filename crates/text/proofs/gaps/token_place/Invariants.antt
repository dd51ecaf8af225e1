-- `text::gaps::token_place` meets its contract: the gap from `at` ends where the gap from here ends. Assumes nothing.
use Rattle.std.proofs.Common.{◌≡◌, ◌≤◌, drop, length, max}
use Rattle.text.specs.Gaps.{gap_from, token_place}
use Rattle.text.proofs.gaps.token_place.Given as goal

abbrev pub invariant-loop-i : goal.invariant-loop-i
invariant-loop-i l = (token_place l.text l.at ≡ gap_from l.comment (drop l.i l.text) l.i) × (l.at ≤ l.i) × (l.i ≤ max l.at (length l.text))
