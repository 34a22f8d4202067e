-- What a host reads right after power-on, in the numbers of the command table (data sheet 1.4, 3.1), where nothing is chosen but the number of
-- pages: without the definitions of a page and of an unpaged part at power-on, so that a slip made there and in the code alike is refused.
-- Assumes nothing.
use Rattle.std.specs.Prelude.{ℕ, ◌<◌, ◌≡◌, true, List, [], ◌∷◌, ◌++◌, map, length, get_or}
use Rattle.command.specs.Table.{lookup}
use Rattle.unpaged.specs.Applies.{is_in}
use Rattle.device.specs.declared.Device.{Device}
use Rattle.device.specs.Device.{usual, supported, power_on}
use Rattle.device.specs.Step.{alert_response, step}
use Rattle.history.specs.Run.{answer}
use Rattle.history.specs.ReadBack.{Reads, stored}

-- the codes that are read and keep nothing written to them, with their data: nothing measured, no bit set, not supplying
abbrev pub not_stored : List (ℕ × List ℕ)
not_stored =
    (0x19, 0xB0 ∷ [])  -- CAPABILITY
    ∷ (0x20, 0x13 ∷ [])  -- VOUT_MODE
    ∷ (0x78, 0x40 ∷ [])  -- STATUS_BYTE: not supplying
    ∷ (0x79, 0x40 ∷ 0x08 ∷ [])  -- STATUS_WORD: not supplying, in both bytes
    ∷ (0x7A, 0x00 ∷ [])  -- STATUS_VOUT
    ∷ (0x7B, 0x00 ∷ [])  -- STATUS_IOUT
    ∷ (0x7C, 0x00 ∷ [])  -- STATUS_INPUT
    ∷ (0x7D, 0x00 ∷ [])  -- STATUS_TEMPERATURE
    ∷ (0x7E, 0x00 ∷ [])  -- STATUS_CML
    ∷ (0x86, 0x06 ∷ 0x00 ∷ 0x00 ∷ 0x00 ∷ 0x00 ∷ 0x00 ∷ 0x00 ∷ [])  -- READ_EIN
    ∷ (0x88, 0x00 ∷ 0x00 ∷ [])  -- READ_VIN
    ∷ (0x8B, 0x00 ∷ 0x00 ∷ [])  -- READ_VOUT
    ∷ (0x8C, 0x00 ∷ 0x00 ∷ [])  -- READ_IOUT
    ∷ (0x8D, 0x00 ∷ 0x00 ∷ [])  -- READ_TEMPERATURE_1
    ∷ (0x98, 0x22 ∷ [])  -- PMBUS_REVISION
    ∷ []

-- each code that is read, with its data: page 0 is selected and off, and what is stored is as listed in ReadBack.antt
abbrev pub at_power_on : List (ℕ × List ℕ)
at_power_on = stored ++ not_stored

abbrev pub row_at : ℕ → ℕ × List ℕ
row_at m = get_or at_power_on m (0x00, 0x00 ∷ [])

-- a device that was just powered on
pub record JustOn (d : Device) : Type 0 where
  -- each code reads as listed, and the codes listed are all that the table lets be read
  pub reads : (m : ℕ) → m < length at_power_on → Reads d (row_at m).0 (row_at m).1
  pub all : (c : ℕ) → c < 256 → (lookup c).read ≡ is_in c (map (λ r. r.0) at_power_on)
  -- the alert is down: an alert response gets 14 and FFh
  pub alert : answer d (alert_response 1) ≡ 14
  pub no_address : (step d (alert_response 1)).reply ≡ 0xFF ∷ []

-- with any number of pages from 1 to 96; the shelf device has 8
unfoldable pub PowerOnReads : Type 0
PowerOnReads = (n : ℕ) → supported n ≡ true → JustOn (power_on (usual n))
