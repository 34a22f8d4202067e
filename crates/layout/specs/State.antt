-- The state that a buffer holds, and which buffers get 15.
-- Assumes nothing.
use Rattle.std.specs.Prelude.{ℕ, Bool, ◌&&◌, List, length, eqb}
use Rattle.device.specs.declared.Device.{Device}
use Rattle.bus.specs.declared.Part.{Part}
use Rattle.stream.specs.Stream.{State, state_valid}
use Rattle.layout.specs.Layout.{state_form, size}

-- the state that a buffer holds, and its bytes; every byte is some value's
unfoldable pub decode : List ℕ → State
decode s = state_form.get s 0

unfoldable pub encode : State → List ℕ
encode x = state_form.put x

-- a buffer of the right length that holds a valid state; every other gets 15 and is left as it is
unfoldable pub ready : List ℕ → Bool
ready s = eqb (length s) size && state_valid (decode s)

abbrev pub part_of : List ℕ → Part
part_of s = (decode s).part

abbrev pub device_of : List ℕ → Device
device_of s = (decode s).device
