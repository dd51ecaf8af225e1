-- Crate state: two results that one contract allows are equal. A theorem for each public function, in the order of the source.
use Rattle.std.specs.Prelude.{Bool, ◌≡◌, ℕ, Option}
use Rattle.devices.specs.declared.keyboard.Keyboard.{Keyboard}
use Rattle.state.specs.declared.device.Device.{Device}
use Rattle.state.specs.declared.LoginRecord.{LoginRecord}
use Rattle.state.specs.declared.Partition.{Partition}
use Rattle.state.specs.declared.Plan.{Plan}
use Rattle.state.specs.declared.Seat.{Seat}
use Rattle.state.specs.declared.Segment.{Segment}
use Rattle.state.specs.declared.State.{State}
use Rattle.state.specs.Devices.{device_of}
use Rattle.state.specs.Empty.{nobody, no_partition, no_plan, no_state}
use Rattle.state.specs.Parts.{with_keyboard, with_cursor, with_login, faulty as Parts·faulty, with_fault, segment_at, seat_at, is_active, part_at, with_part, with_focus, with_stop}
use Rattle.determined.specs.Determined.{AtMostOne, plain}

pub login_record_new : AtMostOne (λ (x : LoginRecord). x ≡ nobody)
login_record_new = plain _

pub partition_new : AtMostOne (λ (x : Partition). x ≡ no_partition)
partition_new = plain _

pub with-keyboard : (self : Partition) (keyboard : Keyboard) → AtMostOne (λ (x : Partition). x ≡ with_keyboard keyboard self)
with-keyboard self keyboard = plain _

pub with-cursor : (self : Partition) (cursor : ℕ) → AtMostOne (λ (x : Partition). x ≡ with_cursor cursor self)
with-cursor self cursor = plain _

pub with-login : (self : Partition) (login : LoginRecord) → AtMostOne (λ (x : Partition). x ≡ with_login login self)
with-login self login = plain _

pub faulty : (self : Partition) (device : ℕ) → AtMostOne (λ (x : Bool). x ≡ Parts·faulty device self)
faulty self device = plain _

pub with-fault : (self : Partition) (device : ℕ) (flag : Bool) → AtMostOne (λ (x : Partition). x ≡ with_fault device flag self)
with-fault self device flag = plain _

pub plan_new : AtMostOne (λ (x : Plan). x ≡ no_plan)
plan_new = plain _

pub segment : (self : Plan) (i : ℕ) → AtMostOne (λ (x : Segment). x ≡ segment_at self i)
segment self i = plain _

pub seat : (self : Plan) (p : ℕ) → AtMostOne (λ (x : Seat). x ≡ seat_at self p)
seat self p = plain _

pub is-active : (self : Plan) (p : ℕ) → AtMostOne (λ (x : Bool). x ≡ is_active self p)
is-active self p = plain _

pub state-new : AtMostOne (λ (x : State). x ≡ no_state)
state-new = plain _

pub part : (self : State) (p : ℕ) → AtMostOne (λ (x : Partition). x ≡ part_at self p)
part self p = plain _

pub with_part_lem : (self : State) (p : ℕ) (part : Partition) → AtMostOne (λ (x : State). x ≡ with_part p part self)
with_part_lem self p part = plain _

pub with-focus : (self : State) (p : ℕ) → AtMostOne (λ (x : State). x ≡ with_focus p self)
with-focus self p = plain _

pub with_stop_lem : (self : State) (off : Bool) → AtMostOne (λ (x : State). x ≡ with_stop off self)
with_stop_lem self off = plain _

pub of : (major : ℕ) → AtMostOne (λ (x : Option Device). x ≡ device_of major)
of major = plain _
