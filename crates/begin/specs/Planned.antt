-- What start fixes: the places of segments and password tables, and the first state.
use Rattle.std.specs.Prelude.{Bool, true, false, cond, List, ℕ, zero, suc, ◌+◌, ◌-◌, ltb, get_or, replicate}
use Rattle.octets.specs.declared.span.Span.{Span}
use Rattle.setup.specs.declared.Setup.{Setup}
use Rattle.octets.specs.Spans.{no_span, span}
use Rattle.setup.specs.Setup.{is_active}
use Rattle.setup.specs.Setup.{no_segment as undeclared}
use Rattle.state.specs.declared.Kept.{Kept}
use Rattle.state.specs.declared.Segment.{Segment}
use Rattle.state.specs.declared.Seat.{Seat}
use Rattle.state.specs.declared.Plan.{Plan}
use Rattle.state.specs.declared.State.{State}
use Rattle.state.specs.Empty.{no_segment, no_seat, no_partition}
use Rattle.begin.specs.Each.{firsts, total}
use Rattle.begin.specs.Files.{dseg_files, password_files}

-- a file's path stands right before its contents in the store, in the image's record
unfoldable pub path_of : Span → ℕ → Span
path_of file n = span (file.place - n) n

-- ---- the segments, rows 0 to 15 dsegs and 16 to 31 msegs, where the dsegs' files stand in the store at `files`

module _ (s : Setup) (files : List Span) where
  -- the bytes that a segment takes: "a dseg has its file's size", an mseg its own, one that is not declared none
  unfoldable pub size_of : ℕ → ℕ
  size_of row =
      cond (ltb row 16) (get_or files row no_span).length
      (cond (ltb (row - 16) s.msegcount) (get_or s.msegs (row - 16) undeclared).size 0)

  -- "Start fills the arena without gaps, with each dseg's file in order, then msegs": where a segment begins
  unfoldable pub start_of : ℕ → ℕ
  start_of row = total size_of row

  unfoldable pub dseg_of : ℕ → Segment
  dseg_of row =
      record {
        memory = span (start_of row) (size_of row);
        file = get_or files row no_span;
        path = path_of (get_or files row no_span) (get_or s.dsegs row undeclared).path.length;
      }

  unfoldable pub mseg_of : ℕ → Segment
  mseg_of row = record { memory = span (start_of row) (size_of row); file = no_span; path = no_span }

  -- entries that are not used are zeros
  unfoldable pub segment_of : ℕ → Segment
  segment_of row =
      cond (ltb row 16) (cond (ltb row s.dsegcount) (dseg_of row) no_segment)
      (cond (ltb (row - 16) s.msegcount) (mseg_of row) no_segment)

-- ---- the partitions, where the active ones' password files stand in the store at `files`

-- "the table area likewise, with each active partition's password file": where a partition's table begins
unfoldable pub table_start : List Span → ℕ → ℕ
table_start files p = total (λ q. (get_or files q no_span).length) p

unfoldable pub seat_of : Setup → List Span → ℕ → Seat
seat_of s files p =
    cond (is_active s p)
    (record { active = true; table = span (table_start files p) (get_or files p no_span).length; file = get_or files p no_span })
    no_seat

-- ---- all of it

unfoldable pub planned : Bool → Setup → List Span → List Span → Kept → Plan
planned soft s files passwords kept =
    record {
      count = s.partitions;
      soft = soft;
      dsegs = s.dsegcount;
      msegs = s.msegcount;
      seats = firsts (seat_of s passwords) 8;
      segments = firsts (segment_of s files) 32;
      kept = kept;
    }

unfoldable pub plan_of : Bool → Setup → List ℕ → List ℕ → Kept → Plan
plan_of soft s text store kept = planned soft s (dseg_files s text store) (password_files s store) kept

-- the lowest active partition, of p and those behind it, n looked at
unfoldable pub lowest : ℕ → Setup → ℕ → ℕ
lowest zero s p = 0
lowest (suc n) s p = cond (is_active s p) p (lowest n s (p + 1))

-- "cursors 0, queues empty, fault flags and marks clear, nobody logged in, focus on the lowest active partition"
unfoldable pub first_state : Setup → State
first_state s = record { partitions = replicate 8 no_partition; focus = lowest 8 s 0; stopped = false; off = false }
