-- What the code's types say in the numbers of the device calls.
use Rattle.std.specs.Prelude.{Bool, true, false, cond, not, ◌&&◌, ◌||◌, List, [], ◌∷◌, Option, Some, None, ℕ, eqb, ltb}
use Rattle.checks.specs.Checks.{Check, ◌when◌}
use Rattle.devices.specs.Queue.{held}
use Rattle.state.specs.declared.Partition.{Partition}
use Rattle.state.specs.Parts.{faulty}
use Rattle.console.specs.declared.transfer.Access.{Access}
use Rattle.console.specs.declared.transfer.Access.TheVariants.{ReadNext, ReadRandom, WriteNext, WriteRandom}
use Rattle.state.specs.declared.device.Device.{Device}
use Rattle.state.specs.declared.device.Device.TheVariants.{Keyboard, Screen}
use Rattle.console.specs.declared.transfer.Transfer.{Transfer}
use Rattle.console.specs.DeviceChecks.{device_checks}

-- ---- the call

-- it is random
abbrev pub is_random : Access → Bool
is_random ReadNext = false
is_random ReadRandom = true
is_random WriteNext = false
is_random WriteRandom = true

-- it writes
abbrev pub writes : Access → Bool
writes ReadNext = false
writes ReadRandom = false
writes WriteNext = true
writes WriteRandom = true

-- the number of a device that fails
abbrev pub failure_of : Access → ℕ
failure_of access = cond (writes access) 203 207

-- its checks
abbrev pub checks_of : Transfer → Partition → ℕ → List Check
checks_of t x room = device_checks (is_random t.access) (writes t.access) x t.partition t.major t.minor t.offset t.request room

-- ---- the device

abbrev pub is_keyboard : Device → Bool
is_keyboard Keyboard = true
is_keyboard Screen = false

abbrev pub is_screen : Device → Bool
is_screen Keyboard = false
is_screen Screen = true

-- of a number's device
abbrev pub the_keyboard : Option Device → Bool
the_keyboard None = false
the_keyboard (Some d) = is_keyboard d

abbrev pub the_screen : Option Device → Bool
the_screen None = false
the_screen (Some d) = is_screen d

abbrev pub unknown : Option Device → Bool
unknown None = true
unknown (Some d) = false

-- the checks by the device that the major number names
unfoldable pub checks_on : Option Device → Transfer → Partition → ℕ → List Check
checks_on device t x room =
    (204 when unknown device) ∷
    (208 when (is_random t.access && the_keyboard device)) ∷
    (205 when not (eqb t.minor t.partition)) ∷
    (202 when (writes t.access && the_keyboard device)) ∷
    (209 when ltb 2000 t.offset) ∷
    (210 when eqb t.offset 2000) ∷
    (214 when ltb room t.request) ∷
    (failure_of t.access when faulty t.major x) ∷
    (206 when (not (writes t.access) && (not (is_random t.access) && (the_screen device || eqb (held x.keyboard) 0)))) ∷ []
