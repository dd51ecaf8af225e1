-- Demand 1: "only a store write that breaks off may leave its stated first bytes, and memory's password table then follows the store". Which moves can be
-- answered 203 (WRITE_FAILURE), and what each of them may then have changed. Writes to a device change nothing then: Refusals has that.
use Rattle.std.specs.Prelude.{Bool, true, false, List, ◌≡◌, ℕ, ◌+◌, min, take, drop}
use Rattle.octets.specs.declared.span.Span.{Span}
use Rattle.state.specs.declared.Segment.{Segment}
use Rattle.memory.specs.Rights.{reach}
use Rattle.steps.specs.World.{World, Move}
use Rattle.steps.specs.World.Move.{ReadNext, ReadRandom, WriteNext, WriteRandom, Load, Store, Flush, Login, Who, Logout, SetPassword, Shutdown, Powerdown, Configuration, Key, Attention, Fault}

-- ---- which moves can be answered 203

-- the four that write to a device or to the store
unfoldable pub can_fail : Move → Bool
can_fail (WriteNext p major minor request bytes) = true
can_fail (WriteRandom p major minor offset request bytes) = true
can_fail (Flush p selector taken) = true
can_fail (SetPassword p password taken) = true
can_fail (ReadNext p major minor request buffer) = false
can_fail (ReadRandom p major minor offset request buffer) = false
can_fail (Load p selector offset buffer) = false
can_fail (Store p selector offset bytes) = false
can_fail (Login p name password) = false
can_fail (Who p buffer) = false
can_fail (Logout p) = false
can_fail (Shutdown p message) = false
can_fail (Powerdown p) = false
can_fail (Configuration p buffer) = false
can_fail (Key byte) = false
can_fail Attention = false
can_fail (Fault p device set) = false

-- ---- what a write to the store may leave

-- of an area, only the first `taken` bytes of a part may have changed: what stands before the part is as it was, and so is all from the part's byte `taken` on,
-- in it and behind it
pub record OnlyFirst (s : Span) (taken : ℕ) (old new : List ℕ) : Type 0 where
  pub before : take s.place new ≡ take s.place old
  pub from : drop (s.place + min taken s.length) new ≡ drop (s.place + min taken s.length) old

-- of an area, only a part may have changed
pub record OnlyPart (s : Span) (old new : List ℕ) : Type 0 where
  pub before : take s.place new ≡ take s.place old
  pub behind : drop (s.place + s.length) new ≡ drop (s.place + s.length) old

-- ---- flush

-- the segment that a selector gives the caller
abbrev pub segment_of : World → ℕ → ℕ → Segment
segment_of w p selector = (reach w.terminal.plan w.permissions p selector).segment
