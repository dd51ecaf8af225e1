-- BAD_STATE: "a place or count, kept in the state .., that leads outside its area; docs/ gives the test". This is
-- the test, as docs/BAD_STATE.md has it. Unused seats and segments are empty, and pass it.
use Rattle.std.specs.Prelude.{Bool, ◌&&◌, List, ℕ, ◌+◌, ◌*◌, leb, ltb}
use Rattle.std.specs.List.{list_all}
use Rattle.octets.specs.declared.span.Span.{Span}
use Rattle.state.specs.declared.Kept.{Kept}
use Rattle.state.specs.declared.Segment.{Segment}
use Rattle.state.specs.declared.Seat.{Seat}
use Rattle.state.specs.declared.Plan.{Plan}
use Rattle.state.specs.declared.Partition.{Partition}
use Rattle.state.specs.declared.State.{State}
use Rattle.state.specs.Parts.{is_active}

-- all of a list's elements pass
unfoldable pub all_of : {A : Type 0} → (A → Bool) → List A → Bool
all_of f l = list_all f l

-- a place with its length lies inside an area of so many bytes
unfoldable pub inside : Span → ℕ → Bool
inside s area = leb (s.place + s.length) area

-- a segment's memory lies in the arena, its file and its path in the store
unfoldable pub good_segment : Kept → Segment → Bool
good_segment kept s = inside s.memory kept.arena && (inside s.file kept.store && inside s.path kept.store)

-- a partition's password table lies in the table area, its password file in the store
unfoldable pub good_seat : Kept → Seat → Bool
good_seat kept s = inside s.table kept.tables && inside s.file kept.store

-- the cursor is a place of a screen, and the queue holds at most 64
unfoldable pub good_partition : Partition → Bool
good_partition x = ltb x.cursor 2000 && leb x.keyboard.held 64

-- "1 to 8 partitions", and of dsegs and msegs "At most 16 of each"
unfoldable pub good_counts : Plan → Bool
good_counts plan = (leb 1 plan.count && leb plan.count 8) && (leb plan.dsegs 16 && leb plan.msegs 16)

-- "a screen area of 2,000 bytes for each partition", and all places inside their areas
unfoldable pub good_plan : Plan → Bool
good_plan plan =
    good_counts plan
    && (leb (2000 * plan.count) plan.kept.screens
    && (all_of (good_seat plan.kept) plan.seats && all_of (good_segment plan.kept) plan.segments))

-- the state test
unfoldable pub good : Plan → State → Bool
good plan s = good_plan plan && (is_active plan s.focus && all_of good_partition s.partitions)
