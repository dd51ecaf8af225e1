-- What a partition may do to a segment: the selectors and permissions of the configuration database.
use Rattle.std.specs.Prelude.{Bool, cond, ◌&&◌, List, ℕ, ◌+◌, ◌-◌, ltb, leb, get_or, replicate}
use Rattle.state.specs.declared.Plan.{Plan}
use Rattle.state.specs.Parts.{segment_at}
use Rattle.memory.specs.declared.Reach.{Reach}

-- "Selectors: 256 + index for a dseg, 512 + index for an mseg": the segment's row, 0 to 15 for a dseg and 16 to 31 for an mseg, as in the
-- permission table; 32 where it names none
unfoldable pub row_of : ℕ → ℕ
row_of selector =
    cond (leb 256 selector && ltb selector 272) (selector - 256)
    (cond (leb 512 selector && ltb selector 528) (16 + (selector - 512)) 32)

-- row r is one of the plan's dsegs or msegs
unfoldable pub declared : Plan → ℕ → Bool
declared plan row = cond (ltb row 16) (ltb row plan.dsegs) (ltb (row - 16) plan.msegs)

-- 0 NA, 1 RO, 2 RW; any other number counts as NA
unfoldable pub permission : ℕ → ℕ
permission x = cond (leb x 2) x 0

-- what partition p may do to the segment of a row: the one answer to "may this partition do that to this segment"
unfoldable pub right_of : Plan → List (List ℕ) → ℕ → ℕ → ℕ
right_of plan permissions row p = cond (declared plan row) (permission (get_or (get_or permissions row (replicate 8 0)) p 0)) 0

-- what a selector gives a partition: its right, whether a file is mapped there (a dseg), the segment
unfoldable pub reach : Plan → List (List ℕ) → ℕ → ℕ → Reach
reach plan permissions p selector =
    record {
      right = right_of plan permissions (row_of selector) p;
      mapped = ltb (row_of selector) 16;
      segment = segment_at plan (row_of selector);
    }
