-- What stands in a buffer after a part was stored: that part, and the device as it was.
-- Assumes nothing.
use Prim.Native.Nat.{ℕ, ◌+◌, ◌≤◌}
use mathlib.Core.Path.{◌≡◌, refl, sym, ap₂, ◌∙◌}
use mathlib.Core.List.{List}
use native.Mathlib.Omega.{arith}
use lib.ListN.{length}
use Rattle.bus.specs.declared.Part.{Part}
use Rattle.bus.specs.Part.{idle}
use Rattle.stream.specs.Stream.{state}
use Rattle.layout.specs.Layout.{part_form, device_form, size}
use Rattle.layout.specs.State.{decode, device_of}
use Rattle.layout.proofs.Laws.{part-back}
use Rattle.layout.proofs.Places.{Local, device-local, read_back, above, store_length}
use Rattle.layout.proofs.EightPages.{part-wide}
use Rattle.layout.proofs.Kept.{Sized, part-fits}
use Rattle.layout.proofs.Decoded.{part-of, device-of}

pub idle-sized : Sized idle
unfolding idle
idle-sized = record { bytes = refl; reply = refl }

module _ (s : List ℕ) (long : length s ≡ size) (q : Part) (z : Sized q) where
  room : 0 + part_form.width ≤ length s
  room = rw part-wide (omega arith)

  pub part_length : length (part_form.store s 0 q) ≡ size
  part_length = store_length part_form part-back s 0 q (part-fits q z) room ∙ long

  stored : List ℕ
  stored = part_form.store s 0 q

  same_device : device_form.get stored 22 ≡ device_form.get s 22
  unfolding stored Local
  same_device = device-local stored s 22 (λ i lo hi. above part_form part-back s 0 q (part-fits q z) room i (rw part-wide lo))

  pub part-decodes : decode (part_form.store s 0 q) ≡ state q (device_of s)
  unfolding stored
  part-decodes =
      ap₂ state (part-of stored ∙ read_back part_form part-back s 0 q (part-fits q z) room)
      (device-of stored ∙ same_device ∙ sym (device-of s))
