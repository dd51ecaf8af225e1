-- The four device calls of partition p, whose struct is x, behind the common checks, whose number is n (0 where nothing
-- is refused yet).
use Rattle.std.specs.Prelude.{true, false, List, ℕ, ◌*◌, length, take}
use Rattle.octets.specs.Lists.{part, on_part}
use Rattle.checks.specs.Checks.{after}
use Rattle.checks.specs.Settle.{settle}
use Rattle.devices.specs.Queue.{Took, queue_take}
use Rattle.devices.specs.Screen.{screen, put_all, on_screen, Transfer, transfer, random_read, random_write}
use Rattle.state.specs.declared.Partition.{Partition}
use Rattle.state.specs.Parts.{with_keyboard, with_cursor}
use Rattle.console.specs.declared.Reply.{Reply}
use Rattle.console.specs.DeviceChecks.{device_checks}

-- ---- what a call gives

-- its number, its count and the partition afterwards
abbrev pub reply : ℕ → ℕ → Partition → Reply
reply number count x = record { number = number; count = count; part = x }

-- and the one lent thing that it may write, a buffer or the screen area
pub record Outcome : Type 0 where
  pub reply : Reply
  pub lent : List ℕ

abbrev pub outcome : Reply → List ℕ → Outcome
outcome r lent = record { reply = r; lent = lent }

-- "Refused counts are 0"; nothing changes
unfoldable pub refusal : ℕ → Partition → List ℕ → Outcome
refusal m x lent = outcome (reply m 0 x) lent

-- ---- the keyboard

unfoldable pub keys_taken : Partition → Took → Outcome
keys_taken x t = outcome (reply 0 t.count (with_keyboard t.keyboard x)) t.buffer

-- "Next-read takes the oldest min(request, held) keys"
unfoldable pub read_next : ℕ → Partition → ℕ → ℕ → ℕ → ℕ → List ℕ → Outcome
read_next n x p major minor request buffer =
    let m = after n (device_checks false false x p major minor 0 request (length buffer)) in
    settle m (keys_taken x (queue_take request x.keyboard buffer)) (refusal m x buffer)

-- ---- the screen

-- partition p's screen: "p's from byte 2,000 × p"
unfoldable pub cells_of : ℕ → List ℕ → List ℕ
cells_of p screens = part (2000 * p) 2000 screens

-- partition p's screen changed, every other byte of the screen area as it was
unfoldable pub on_cells : ℕ → (List ℕ → List ℕ) → List ℕ → List ℕ
on_cells p f screens = on_part (2000 * p) 2000 f screens

-- "Random read and write move min(request, 2,000 − offset) cells and not the cursor"
unfoldable pub cells_moved : Partition → Transfer → Outcome
cells_moved x t = outcome (reply 0 t.count x) t.after

unfoldable pub read_random : ℕ → Partition → ℕ → ℕ → ℕ → ℕ → ℕ → List ℕ → List ℕ → Outcome
read_random n x p major minor offset request screens buffer =
    let m = after n (device_checks true false x p major minor offset request (length buffer)) in
    settle m (cells_moved x (random_read offset request (cells_of p screens) buffer)) (refusal m x buffer)

-- bytes laid over the cells of partition p's screen
unfoldable pub written : ℕ → ℕ → ℕ → List ℕ → List ℕ → Transfer
written p offset request bytes screens =
    transfer (random_write offset request bytes (cells_of p screens)).count (on_cells p (λ cells. (random_write offset request bytes cells).after) screens)

unfoldable pub write_random : ℕ → Partition → ℕ → ℕ → ℕ → ℕ → ℕ → List ℕ → List ℕ → Outcome
write_random n x p major minor offset request bytes screens =
    let m = after n (device_checks true true x p major minor offset request (length bytes)) in
    settle m (cells_moved x (written p offset request bytes screens)) (refusal m x screens)

-- what bytes on a screen leave: the partition, with the cursor where it then is, and the screen area
pub record Drawn : Type 0 where
  pub part : Partition
  pub screens : List ℕ

abbrev pub drawing : Partition → List ℕ → Drawn
drawing x screens = record { part = x; screens = screens }

-- bytes put on partition p's screen, one after the other
unfoldable pub drawn : List ℕ → ℕ → Partition → List ℕ → Drawn
drawn bytes p x screens =
    drawing (with_cursor (on_screen (put_all bytes) (screen (cells_of p screens) x.cursor)).cursor x)
    (on_cells p (λ cells. (on_screen (put_all bytes) (screen cells x.cursor)).cells) screens)

-- "Next-write puts all requested bytes": the count is the request
unfoldable pub bytes_put : ℕ → Drawn → Outcome
bytes_put request d = outcome (reply 0 request d.part) d.screens

unfoldable pub write_next : ℕ → Partition → ℕ → ℕ → ℕ → ℕ → List ℕ → List ℕ → Outcome
write_next n x p major minor request bytes screens =
    let m = after n (device_checks false true x p major minor 0 request (length bytes)) in
    settle m (bytes_put request (drawn (take request bytes) p x screens)) (refusal m x screens)
