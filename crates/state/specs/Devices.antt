-- "Keyboard major 1, screen major 2"; there is no other device.
use Rattle.std.specs.Prelude.{Option, None, Some, cond, ℕ, eqb}
use Rattle.state.specs.declared.device.Device.{Device}
use Rattle.state.specs.declared.device.Device.TheVariants.{Keyboard, Screen}

unfoldable pub device_of : ℕ → Option Device
device_of major = cond (eqb major 1) (Some Keyboard) (cond (eqb major 2) (Some Screen) None)
