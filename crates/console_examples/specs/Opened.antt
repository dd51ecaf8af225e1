-- Partitions to compute with, and one name that opens every definition.
use Rattle.std.specs.Prelude.{Bool, true, false, ◌∷◌, ℕ, replicate}
use Rattle.octets.specs.Lists.{part, over, write_at, on_part}
use Rattle.octets.specs.Search.{index_after, index_of}
use Rattle.checks.specs.Checks.{refused, after}
use Rattle.checks.specs.Settle.{settle}
use Rattle.devices.specs.declared.keyboard.Keyboard.{Keyboard}
use Rattle.devices.specs.Queue.{no_keys, held, queue, takes, queue_drop, take_out, queue_take}
use Rattle.devices.specs.Screen.{row, column, scrolled, next_row, advance, back, placed, put, put_all, is_screen, on_screen, moved, random_read, read_out, random_write, write_out}
use Rattle.state.specs.declared.Partition.{Partition}
use Rattle.state.specs.Empty.{nobody}
use Rattle.state.specs.Parts.{with_keyboard, with_cursor, faulty}
use Rattle.console.specs.DeviceChecks.{no_data, device_checks}
use Rattle.console.specs.Console.{refusal, keys_taken, read_next, cells_of, on_cells, cells_moved, read_random, written, write_random, drawn, bytes_put, write_next}
use Rattle.console.specs.Halt.{message_end, shown_message, notice, halt}

-- with keys, a cursor, and a fault flag for both devices
abbrev pub holding : Keyboard → ℕ → Bool → Partition
holding keys cursor fault = record { keyboard = keys; cursor = cursor; keyfault = fault; screenfault = fault; login = nobody }

abbrev pub idle : Partition
idle = holding no_keys 0 false

abbrev pub broken : Partition
broken = holding no_keys 0 true

-- the keys a, b and c
abbrev pub three : Keyboard
three = record { keys = 97 ∷ 98 ∷ 99 ∷ replicate 61 0; held = 3 }

unfoldable pub opened : ℕ
unfolding part over write_at on_part index_after index_of refused after settle no_keys held queue takes queue_drop take_out queue_take row column scrolled next_row advance back placed put put_all is_screen on_screen moved random_read read_out random_write write_out with_keyboard with_cursor faulty no_data device_checks refusal keys_taken read_next cells_of on_cells cells_moved read_random written write_random drawn bytes_put write_next message_end shown_message notice halt
opened = 0
