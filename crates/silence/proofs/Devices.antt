-- The calls on devices, shutdown and powerdown, behind the mask: none of them looks at a login record.
use Rattle.std.specs.Prelude.{Bool, List, ◌≡◌, ℕ, length, take, true, false}
use Rattle.checks.specs.Checks.{after}
use Rattle.devices.specs.Queue.{queue_take}
use Rattle.devices.specs.Screen.{random_read}
use Rattle.state.specs.declared.Partition.{Partition}
use Rattle.state.specs.Parts.{with_login, with_keyboard, with_cursor, faulty}
use Rattle.console.specs.DeviceChecks.{device_checks, no_data}
use Rattle.console.specs.Console as console
use Rattle.terminal.specs.declared.Terminal.{Terminal}
use Rattle.terminal.specs.Terminal.{partition_of, guard_of, differs}
use Rattle.terminal.specs.DeviceCalls as devices
use Rattle.silence.specs.Mask.{mask_terminal}
use Rattle.silence.specs.Veil.{veiled}
use Rattle.silence.proofs.Veil.{masked_plan, masked_part, masked_put, masked_guard}
use Rattle.silence.specs.Worlds.{mask_answer, mask_outcome}
use Rattle.silence.proofs.Worlds.{settle-map}

module _ (kept : Bool) (q : ℕ) where
  -- ---- a partition's answer behind the mask

  unfoldable shown : ℕ → console.Outcome → console.Outcome
  shown p o = console.outcome (console.reply o.reply.number o.reply.count (veiled kept q p o.reply.part)) o.lent

  module _ (n : ℕ) (x : Partition) (p major minor : ℕ) where
    read_next-veiled : (request : ℕ) (buffer : List ℕ)
        → console.read_next n (veiled kept q p x) p major minor request buffer ≡ shown p (console.read_next n x p major minor request buffer)
    unfolding console.read_next console.keys_taken console.refusal device_checks no_data faulty veiled with_login with_keyboard shown
    read_next-veiled request buffer =
        settle-map (shown p) (after n (device_checks false false x p major minor 0 request (length buffer)))
        (console.keys_taken x (queue_take request x.keyboard buffer))
        (console.refusal (after n (device_checks false false x p major minor 0 request (length buffer))) x buffer)

    read_random-veiled : (offset request : ℕ) (screens buffer : List ℕ)
        → console.read_random n (veiled kept q p x) p major minor offset request screens buffer ≡ shown p (console.read_random n x p major minor offset request screens buffer)
    unfolding console.read_random console.cells_moved console.refusal device_checks no_data faulty veiled with_login shown
    read_random-veiled offset request screens buffer =
        settle-map (shown p) (after n (device_checks true false x p major minor offset request (length buffer)))
        (console.cells_moved x (random_read offset request (console.cells_of p screens) buffer))
        (console.refusal (after n (device_checks true false x p major minor offset request (length buffer))) x buffer)

    write_random-veiled : (offset request : ℕ) (bytes screens : List ℕ)
        → console.write_random n (veiled kept q p x) p major minor offset request bytes screens ≡ shown p (console.write_random n x p major minor offset request bytes screens)
    unfolding console.write_random console.cells_moved console.refusal device_checks no_data faulty veiled with_login shown
    write_random-veiled offset request bytes screens =
        settle-map (shown p) (after n (device_checks true true x p major minor offset request (length bytes)))
        (console.cells_moved x (console.written p offset request bytes screens))
        (console.refusal (after n (device_checks true true x p major minor offset request (length bytes))) x screens)

    write_next-veiled : (request : ℕ) (bytes screens : List ℕ)
        → console.write_next n (veiled kept q p x) p major minor request bytes screens ≡ shown p (console.write_next n x p major minor request bytes screens)
    unfolding console.write_next console.bytes_put console.drawn console.refusal device_checks no_data faulty veiled with_login with_cursor shown
    write_next-veiled request bytes screens =
        settle-map (shown p) (after n (device_checks false true x p major minor 0 request (length bytes)))
        (console.bytes_put request (console.drawn (take request bytes) p x screens))
        (console.refusal (after n (device_checks false true x p major minor 0 request (length bytes))) x screens)

  -- ---- a terminal's

  module _ (t : Terminal) (p : ℕ) where
    replied_masked : (o : console.Outcome) → devices.replied (mask_terminal kept q t) p (shown p o) ≡ mask_outcome kept q (devices.replied t p o)
    unfolding devices.replied shown mask_outcome mask_answer
    replied_masked o = rw (masked_put kept q t p o.reply.part)

    module _ (major minor : ℕ) where
      pub read_next_masked : (request : ℕ) (buffer : List ℕ)
          → devices.read_next (mask_terminal kept q t) p major minor request buffer ≡ mask_outcome kept q (devices.read_next t p major minor request buffer)
      unfolding devices.read_next
      read_next_masked request buffer =
          rw (masked_guard kept q t false p, masked_part kept q t p, read_next-veiled (guard_of t false p) (partition_of t p) p major minor request buffer)
          (replied_masked _)

      pub read_random_masked : (offset request : ℕ) (screens buffer : List ℕ)
          → devices.read_random (mask_terminal kept q t) p major minor offset request screens buffer
          ≡ mask_outcome kept q (devices.read_random t p major minor offset request screens buffer)
      unfolding devices.read_random
      read_random_masked offset request screens buffer =
          let n = guard_of t (differs screens t.plan.kept.screens) p in
          rw (masked_part kept q t p, read_random-veiled _ (partition_of t p) p major minor offset request screens buffer, replied_masked, masked_guard, masked_plan kept q t)

      pub write_next_masked : (request : ℕ) (bytes screens : List ℕ)
          → devices.write_next (mask_terminal kept q t) p major minor request bytes screens
          ≡ mask_outcome kept q (devices.write_next t p major minor request bytes screens)
      unfolding devices.write_next
      write_next_masked request bytes screens =
          rw (masked_part kept q t p, write_next-veiled _ (partition_of t p) p major minor request bytes screens, replied_masked, masked_guard, masked_plan kept q t)

      pub write_random_masked : (offset request : ℕ) (bytes screens : List ℕ)
          → devices.write_random (mask_terminal kept q t) p major minor offset request bytes screens
          ≡ mask_outcome kept q (devices.write_random t p major minor offset request bytes screens)
      unfolding devices.write_random
      write_random_masked offset request bytes screens =
          rw (masked_part kept q t p, write_random-veiled _ (partition_of t p) p major minor offset request bytes screens, replied_masked, masked_guard, masked_plan kept q t)
