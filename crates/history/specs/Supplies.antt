-- Whether a page supplies, as a host reads it (data sheet 6.10, 6.11) and as the firmware asks (7.7): both by the plain facts of `page`'s
-- Supplies.antt.
-- Assumes nothing.
use Rattle.std.specs.Prelude.{ℕ, ◌<◌, ◌≡◌, ◌↔◌, true, false, List, [], ◌∷◌, length, get_or}
use Rattle.laws.specs.Bits.{bit}
use Rattle.page.specs.Supplies.{Supplying}
use Rattle.device.specs.declared.Device.{Device}
use Rattle.device.specs.Device.{Choice, number_of, granted, page_of}
use Rattle.device.specs.Step.{Call, read, step}
use Rattle.device.specs.Supply.{supplies_at}
use Rattle.history.specs.Run.{answer, reached}

-- a read of n bytes of a code is answered, and bit k of byte j of the reply is 0 exactly where page i supplies
pub record ShowsOff (d : Device) (i code n j k : ℕ) : Type 0 where
  pub accepted : answer d (read (0xC0 ∷ code ∷ 0xC1 ∷ []) n) ≡ 0
  pub off : (bit (get_or (step d (read (0xC0 ∷ code ∷ 0xC1 ∷ []) n)).reply j 0) k ≡ false) ↔ Supplying (page_of d i)

-- in every state of a run, while page i is selected
pub record Shown (d : Device) (i : ℕ) : Type 0 where
  -- STATUS_BYTE bit 6
  pub byte : ShowsOff d i 0x78 1 0 6
  -- STATUS_WORD bit 6, and bit 11, in its second byte
  pub low : ShowsOff d i 0x79 2 0 6
  pub high : ShowsOff d i 0x79 2 1 3

unfoldable pub HeldOff : Type 0
HeldOff =
    (x : Choice) (cs : List Call) (i : ℕ) → granted x ≡ true → i < number_of x → (reached x cs).unpaged.page ≡ i → Shown (reached x cs) i

-- what the firmware asks of any state, for any page number
unfoldable pub SuppliesAsked : Type 0
SuppliesAsked = (d : Device) (i : ℕ) → (supplies_at d.pages i ≡ true) ↔ ((i < length d.pages) × Supplying (page_of d i))
