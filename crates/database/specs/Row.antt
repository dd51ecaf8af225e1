-- How the code lays entries: one row's behind `count` others, and those of the first n rows behind the header's 24 bytes. The code hands down
-- what it needs of the plan and of the permission table, so the first definitions are those of Database over these parts.
use Rattle.std.specs.Prelude.{cond, List, [], ◌∷◌, ◌++◌, ◌≡◌, ℕ, ◌+◌, ◌*◌, eqb}
use Rattle.octets.specs.Lists.{part, write_at}
use Rattle.octets.specs.Numbers.{spelled}
use Rattle.state.specs.declared.Segment.{Segment}
use Rattle.state.specs.declared.Plan.{Plan}
use Rattle.memory.specs.Rights.{right_of}
use Rattle.database.specs.Database.{kind_of, selector_of, entry, listed, entries, entry_count}

-- numbers of four bytes, one behind the other
unfoldable pub spelled_all : List ℕ → List ℕ
spelled_all [] = []
spelled_all (v ∷ values) = spelled 4 v ++ spelled_all values

-- `entry_of` by the row's segment
unfoldable pub entry_in : Segment → List ℕ → ℕ → ℕ → List ℕ
entry_in segment store right row =
    entry (kind_of row) (selector_of row) segment.memory.length right (part segment.path.place segment.path.length store)

-- `Row` by the row's segment and right
pub record Laid (segment : Segment) (right : ℕ) (store : List ℕ) (row count next : ℕ) (old new : List ℕ) : Type 0 where
  pub counted : next ≡ count + cond (eqb right 0) 0 1
  pub laid : new ≡ write_at (24 + 80 * count) (cond (eqb right 0) [] (entry_in segment store right row)) old

pub record Row (plan : Plan) (permissions : List (List ℕ)) (store : List ℕ) (p row count next : ℕ) (old new : List ℕ) : Type 0 where
  pub counted : next ≡ count + cond (eqb (right_of plan permissions row p) 0) 0 1
  pub laid : new ≡ write_at (24 + 80 * count) (listed plan permissions store p row) old

pub record Rows (plan : Plan) (permissions : List (List ℕ)) (store : List ℕ) (p n count : ℕ) (old new : List ℕ) : Type 0 where
  pub counted : count ≡ entry_count plan permissions p n
  pub laid : new ≡ write_at 24 (entries plan permissions store p n) old
