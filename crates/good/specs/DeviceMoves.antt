-- The device calls, the stopping calls and the events leave a good world good.
use Rattle.std.specs.Prelude.{Bool, true, ◌&&◌, List, [], ℕ, ◌*◌, ◌≤◌, leb}
use Rattle.std.proofs.Math.Bool.{and-eq-true_iff}
use Rattle.checks.specs.Settle.{by_settle}
use Rattle.devices.specs.Choice.{by_cond}
use Rattle.state.specs.declared.State.{State}
use Rattle.state.specs.Parts.{is_active, part_at, with_part, with_stop, with_fault}
use Rattle.guard.specs.Test.{all_of, good_counts, good_seat, good_segment, good_plan}
use Rattle.guard.specs.TestLaws.{few}
use Rattle.guard.specs.Events.{running, typed, key, attention, fault}
use Rattle.console.specs.ConsoleLaws.{length-write_next, length-write_random, length-halt}
use Rattle.console.specs.Halt.{halt}
use Rattle.terminal.specs.Terminal.{Outcome, with_state, with_partition, partition_of}
use Rattle.terminal.specs.DeviceCalls as devices
use Rattle.terminal.specs.StopCalls as stops
use Rattle.terminal.specs.Events as events
use Rattle.steps.specs.World.{World, ReadNext, ReadRandom, WriteNext, WriteRandom, Shutdown, Powerdown, Key, Attention, Fault, fills, answers, becomes, step, with_terminal, with_screens}
use Rattle.good.specs.Good.{plan_of, Good}
use Rattle.good.specs.Partitions.{read_next-follows, read_random-follows, write_next-follows, write_random-follows, halt-follows, typed-follows, fault-follows}
use Rattle.good.specs.Changes.{test_plan, test_focus, good-screens, good-follows, seat_good, good_stop, good-focus}
use Rattle.good.specs.Attention.{attention-finds}

-- "1 to 8 partitions"
pub few_partitions : (w : World) → Good w → (plan_of w).count ≤ 8
unfolding good_plan
few_partitions w g =
    let plan = plan_of w in
    few plan
    ((and-eq-true_iff (good_counts plan)
    (leb (2000 * plan.count) plan.kept.screens && (all_of (good_seat plan.kept) plan.seats && all_of (good_segment plan.kept) plan.segments))
    ).0 (test_plan plan w.terminal.state g.tested)).0

module _ (w : World) (g : Good w) where
  -- ---- devices

  pub good-read-next : (p major minor request : ℕ) (buffer : List ℕ) → Good (step w (ReadNext p major minor request buffer)).world
  unfolding step fills devices.read_next devices.replied partition_of
  good-read-next p major minor request buffer = good-follows w g p _ (read_next-follows _ (seat_good w g p) _ p major minor request buffer)

  pub good-read_random : (p major minor offset request : ℕ) (buffer : List ℕ) → Good (step w (ReadRandom p major minor offset request buffer)).world
  unfolding step fills devices.read_random devices.replied partition_of
  good-read_random p major minor offset request buffer =
      good-follows w g p _ (read_random-follows _ (seat_good w g p) _ p major minor offset request w.screens buffer)

  pub good-write-next : (p major minor request : ℕ) (bytes : List ℕ) → Good (step w (WriteNext p major minor request bytes)).world
  unfolding step answers devices.write_next devices.replied partition_of
  good-write-next p major minor request bytes =
      good-follows (with_screens _ w) (good-screens w g _ (length-write_next _ _ p major minor request bytes w.screens)) p _
      (write_next-follows _ (seat_good w g p) _ p major minor request bytes w.screens)

  pub good-write_random : (p major minor offset request : ℕ) (bytes : List ℕ) → Good (step w (WriteRandom p major minor offset request bytes)).world
  unfolding step answers devices.write_random devices.replied partition_of
  good-write_random p major minor offset request bytes =
      good-follows (with_screens _ w) (good-screens w g _ (length-write_random _ _ p major minor offset request bytes w.screens)) p _
      (write_random-follows _ (seat_good w g p) _ p major minor offset request bytes w.screens)

  -- ---- stops

  abbrev Leaves : Outcome → Type 0
  Leaves o = Good (with_terminal o.answer.terminal (with_screens o.lent w))

  halted : (p : ℕ) (message : List ℕ) → Leaves (stops.stopped w.terminal p (halt message p (partition_of w.terminal p) w.screens))
  unfolding stops.stopped partition_of with_partition with_state with_part with_stop
  halted p message =
      let x = part_at w.terminal.state p in
      let d = halt message p x w.screens in
      let shown = with_screens d.screens w in
      let drawn = good-follows shown (good-screens w g d.screens (length-halt message p x w.screens)) p d.part (halt-follows x (seat_good w g p) message p w.screens) in
      good_stop (with_terminal (with_partition p d.part w.terminal) shown) drawn w.terminal.state.off

  shut : (p : ℕ) (message : List ℕ) → Leaves (stops.shutdown w.terminal p message w.screens)
  unfolding stops.shutdown
  shut p message = by_settle Leaves _ (λ e. halted p message) (λ e. g)

  pub good-shutdown : (p : ℕ) (message : List ℕ) → Good (step w (Shutdown p message)).world
  unfolding step answers
  good-shutdown p message = shut p message

  switched : (p : ℕ) → Leaves (stops.switched_off w.terminal p w.screens)
  unfolding stops.switched_off
  switched p = by_settle Leaves _ (λ e. good_stop w g true) (λ e. g)

  pub good-powerdown : (p : ℕ) → Good (step w (Powerdown p)).world
  unfolding step answers stops.powerdown
  good-powerdown p = by_cond Leaves (plan_of w).soft (λ e. switched p) (λ e. shut p [])

  -- ---- events

  abbrev Becomes : State → Type 0
  Becomes s = Good (with_terminal (with_state s w.terminal) w)

  same-state : Becomes w.terminal.state
  unfolding with_state
  same-state = g

  pub good-key : (byte : ℕ) → Good (step w (Key byte)).world
  unfolding step becomes events.key key with_partition
  good-key byte =
      let p = w.terminal.state.focus in
      by_cond Becomes (running (plan_of w) w.terminal.state)
      (λ e. good-follows w g p (typed byte (part_at w.terminal.state p)) (typed-follows (part_at w.terminal.state p) (seat_good w g p) byte))
      (λ e. same-state)

  pub good-attention : Good (step w Attention).world
  unfolding step becomes events.attention attention
  good-attention =
      by_cond Becomes (running (plan_of w) w.terminal.state)
      (λ e. good-focus w g _ (attention-finds (plan_of w) w.terminal.state.focus (test_focus (plan_of w) w.terminal.state g.tested) (few_partitions w g)))
      (λ e. same-state)

  pub good-fault : (p device : ℕ) (set : Bool) → Good (step w (Fault p device set)).world
  unfolding step becomes events.fault fault with_partition
  good-fault p device set =
      by_cond Becomes (running (plan_of w) w.terminal.state && is_active (plan_of w) p)
      (λ e. good-follows w g p (with_fault device set (part_at w.terminal.state p)) (fault-follows (part_at w.terminal.state p) (seat_good w g p) device set))
      (λ e. same-state)
