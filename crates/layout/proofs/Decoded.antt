-- The parts of the state that a buffer holds, and the test for answer 15.
-- Assumes nothing.
use Prim.Native.Nat.{ℕ}
use mathlib.Core.Path.{◌≡◌, refl, ap}
use mathlib.Core.Bool.{Bool, false, ◌&&◌, and_assoc}
use mathlib.Core.List.{List}
use lib.ListN.{length}
use borrow.Author.Tests.{eq-eqb, ne_eqb}
use Rattle.laws.specs.Lists.{all_of}
use Rattle.bus.specs.Part.{part_valid}
use Rattle.page.specs.Settings.{page_valid}
use Rattle.unpaged.specs.Unpaged.{unpaged_valid}
use Rattle.device.specs.declared.Device.{Device}
use Rattle.device.specs.Device.{device, device_valid, supported}
use Rattle.stream.specs.Stream.{state_valid}
use Rattle.layout.specs.Layout.{part_form, account_form, unpaged_form, device_form, state_form, pages_in, size, unpaged_at}
use Rattle.layout.specs.State.{decode, ready, part_of, device_of}

module _ (s : List ℕ) where
  pub part-of : part_of s ≡ part_form.get s 0
  unfolding decode state_form
  part-of = refl

  pub device-of : device_of s ≡ device_form.get s 22
  unfolding decode state_form part_form
  device-of = refl

  pub device-is : device_of s ≡ device (unpaged_form.get s unpaged_at) (pages_in s)
  unfolding decode state_form part_form device_form unpaged_form account_form
  device-is = refl

  pub unpaged-of : (device_of s).unpaged ≡ unpaged_form.get s unpaged_at
  unpaged-of = ap (λ (d : Device). d.unpaged) device-is

  pub pages_of : (device_of s).pages ≡ pages_in s
  pages_of = ap (λ (d : Device). d.pages) device-is

  device-valid : device_valid (device_of s) ≡ (unpaged_valid 8 (unpaged_form.get s unpaged_at) && all_of page_valid (pages_in s))
  unfolding device_valid supported
  device-valid = rw device-is

  pub state-tests : (part_valid (part_form.get s 0) && unpaged_valid 8 (unpaged_form.get s unpaged_at) && all_of page_valid (pages_in s)) ≡ state_valid (decode s)
  unfolding state_valid
  state-tests = rw (device-valid, part-of) (and_assoc (part_valid (part_form.get s 0)) _ _)

  pub ready_made : length s ≡ size → (r : Bool) → r ≡ state_valid (decode s) → r ≡ ready s
  unfolding ready
  ready_made l r e = rw (eq-eqb (length s) size l) e

  pub ready-not : (length s ≡ size → ⊥) → false ≡ ready s
  unfolding ready
  ready-not l = rw (ne_eqb (length s) size l)
