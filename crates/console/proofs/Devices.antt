-- The checks by a device are those by its number.
use Rattle.std.proofs.Common.{eqb-true, Bool, true, false, not, ◌||◌, ◌≡◌, refl, ◌∙◌, Option, Result, ℕ, eqb, cond, Some, None}
use Rattle.checks.specs.declared.refusal.Refusal.{Refusal}
use Rattle.checks.specs.Checks.{after}
use Rattle.checks.specs.Laws.{behind_after}
use Rattle.checks.specs.Refusals.{answer, behind}
use Rattle.state.specs.declared.Partition.{Partition}
use Rattle.console.specs.DeviceChecks.{no_data, device_checks}
use Rattle.state.specs.declared.device.Device.{Device}
use Rattle.state.specs.declared.device.Device.TheVariants.{Keyboard, Screen}
use Rattle.console.specs.declared.transfer.Transfer.{Transfer}
use Rattle.state.specs.Devices.{device_of}
use Rattle.console.specs.Transfers.{checks_of, the_keyboard, the_screen, unknown, checks_on}

module _ (major : ℕ) where
  unknown_major : unknown (device_of major) ≡ not (eqb major 1 || eqb major 2)
  unfolding device_of
  unknown_major = go (eqb major 1) (eqb major 2)
    where
      go : (a b : Bool) → unknown (cond a (Some Keyboard) (cond b (Some Screen) None)) ≡ not (a || b)
      go true b = refl
      go false true = refl
      go false false = refl

  keyboard_major : the_keyboard (device_of major) ≡ eqb major 1
  unfolding device_of
  keyboard_major = go (eqb major 1) (eqb major 2)
    where
      go : (a b : Bool) → the_keyboard (cond a (Some Keyboard) (cond b (Some Screen) None)) ≡ a
      go true b = refl
      go false true = refl
      go false false = refl

-- a call of one screen
screen_major : (major : ℕ) → eqb major 1 ≡ false → the_screen (device_of major) ≡ eqb major 2
unfolding device_of
screen_major major e = rw e (go (eqb major 2))
  where
    go : (b : Bool) → the_screen (cond b (Some Screen) None) ≡ b
    go true = refl
    go false = refl

pub screen_first : (major : ℕ) → the_screen (device_of major) ≡ eqb major 2
unfolding device_of
screen_first major = go (eqb major 1) refl
  where
    go : (a : Bool) → eqb major 1 ≡ a → the_screen (device_of major) ≡ eqb major 2
    go true e = rw (eqb-true major 1 e)
    go false e = screen_major major e

pub by_device : (t : Transfer) (x : Partition) (room : ℕ) → checks_on (device_of t.major) t x room ≡ checks_of t x room
unfolding checks_on device_checks no_data
by_device t x room = rw (unknown_major t.major, keyboard_major t.major, screen_first t.major)

pub refused_on : {A : Type 0} (n : ℕ) (t : Transfer) (x : Partition) (room : ℕ) (device : Option Device) (outcome : Result A Refusal)
    → device ≡ device_of t.major → answer outcome ≡ after 0 (checks_on device t x room) → behind n outcome ≡ after n (checks_of t x room)
refused_on n t x room device outcome d e =
    behind_after n (checks_of t x room) outcome (e ∙ rw (d, by_device t x room))
