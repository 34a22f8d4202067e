-- Each value that a machine's byte may have occurs in a run of the device (data sheet 7.12, 12): three calls, or four, give it.
-- Assumes nothing.
use Rattle.std.specs.Prelude.{ℕ, ◌<◌, ◌≤◌, ◌≡◌, Bool, true, cond, List, [], ◌∷◌, get_or}
use Rattle.device.specs.Device.{usual, supported}
use Rattle.device.specs.Step.{Call, write, measure, tick}
use Rattle.history.specs.Run.{reached}
use Rattle.history.specs.Retry.{byte_at}

-- by the number of a cause: the code of its response, the quantity measured, and a word past the limit that power-on sets
abbrev pub response_codes : List ℕ
response_codes = 0x41 ∷ 0x47 ∷ 0x50 ∷ 0x54 ∷ 0x56 ∷ 0x5A ∷ []

abbrev pub quantities : List ℕ
quantities = 0 ∷ 1 ∷ 3 ∷ 3 ∷ 2 ∷ 2 ∷ []

abbrev pub past_limits : List ℕ
past_limits = 0xFFFF ∷ 0x7BFF ∷ 0x7BFF ∷ 0x7C00 ∷ 0x7BFF ∷ 0x7C00 ∷ []

-- PAGE i, the response byte of cause k, a measurement that makes the cause present, and perhaps a tick
unfoldable pub calls_to : ℕ → ℕ → ℕ → Bool → List Call
calls_to i k response ticked =
    write (0xC0 ∷ 0x00 ∷ i ∷ [])
    ∷ write (0xC0 ∷ get_or response_codes k 0 ∷ response ∷ [])
    ∷ measure i (get_or quantities k 0) (get_or past_limits k 0)
    ∷ cond ticked (tick ∷ []) []

-- with some response byte these calls, from power-on of n pages, leave machine k of page i at b
pub record OccursIn (n i k b : ℕ) : Type 0 where
  pub response : ℕ
  pub is_byte : response < 256
  pub ticked : Bool
  pub reaches : byte_at i k (reached (usual n) (calls_to i k response ticked)) ≡ b

-- on every page, for each of the five causes that have a machine
unfoldable pub MachineOccurs : Type 0
MachineOccurs = (n i k b : ℕ) → supported n ≡ true → i < n → k < 6 → (k ≡ 1 → ⊥) → b ≤ 64 → OccursIn n i k b
