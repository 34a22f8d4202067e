-- When a cause or a warning is present in a run, by the calls of the run: codes, words and exact values (data sheet 6.2), without a field of
-- a page and without what a call does to it.
-- Assumes nothing.
use Rattle.std.specs.Prelude.{ℕ, ◌+◌, ◌*◌, ◌<◌, ◌≡◌, ◌↔◌, Bool, true, false, List, [], ◌∷◌, get_or}
use Rattle.cause.specs.Causes.{Side}
use Rattle.page.specs.Causes.{present}
use Rattle.page.specs.Presence.{value_of, Past, line_of}
use Rattle.device.specs.Device.{Choice, number_of, choice_at, power_on, page_of}
use Rattle.device.specs.Step.{Call}
use Rattle.history.specs.Run.{reached}
use Rattle.history.specs.ReadBack.{latest, AllOnBus, starts_as, stores, written_data, measures, measured_word}

-- the code of each limit, by the limit's number, and its data after power-on where nothing else is chosen (data sheet 3.1)
abbrev pub limit_rows : List (ℕ × List ℕ)
limit_rows =
    (0x40, 0x3D ∷ 0x2A ∷ [])  -- VOUT_OV_FAULT_LIMIT
    ∷ (0x46, 0x80 ∷ 0xD2 ∷ [])  -- IOUT_OC_FAULT_LIMIT
    ∷ (0x4F, 0x70 ∷ 0xEB ∷ [])  -- OT_FAULT_LIMIT
    ∷ (0x53, 0xC0 ∷ 0xEE ∷ [])  -- UT_FAULT_LIMIT
    ∷ (0x55, 0xFF ∷ 0xD3 ∷ [])  -- VIN_OV_FAULT_LIMIT
    ∷ (0x59, 0xF5 ∷ 0xC3 ∷ [])  -- VIN_UV_FAULT_LIMIT
    ∷ (0x42, 0x3D ∷ 0x2A ∷ [])  -- VOUT_OV_WARN_LIMIT
    ∷ (0x4A, 0x80 ∷ 0xD2 ∷ [])  -- IOUT_OC_WARN_LIMIT
    ∷ (0x51, 0x70 ∷ 0xEB ∷ [])  -- OT_WARN_LIMIT
    ∷ (0x57, 0xFF ∷ 0xD3 ∷ [])  -- VIN_OV_WARN_LIMIT
    ∷ (0x58, 0xF5 ∷ 0xC3 ∷ [])  -- VIN_UV_WARN_LIMIT
    ∷ []

abbrev pub limit_row : ℕ → ℕ × List ℕ
limit_row n = get_or limit_rows n (0x00, [])

-- the word of two data bytes, low byte first
abbrev pub data_word : List ℕ → ℕ
data_word bytes = get_or bytes 0 0 + get_or bytes 1 0 * 256

-- the limit in force on page i: the word of the latest accepted write of its code that acts on that page, or power-on's
abbrev pub limit_now : Choice → List Call → ℕ → ℕ × List ℕ → ℕ
limit_now x cs i row = data_word (latest (stores i row.0) written_data (power_on x) cs (starts_as (choice_at x i) row))

-- there was an accepted measurement of quantity q on page i, and the word of the latest
abbrev pub ever_measured : Choice → List Call → ℕ → ℕ → Bool
ever_measured x cs i q = latest (measures i q) (λ c. true) (power_on x) cs false

abbrev pub word_now : Choice → List Call → ℕ → ℕ → ℕ
word_now x cs i q = latest (measures i q) measured_word (power_on x) cs 0

-- that word lies past that limit, both by the format that was chosen for the page
pub record Crossed (x : Choice) (cs : List Call) (i : ℕ) (row : ℕ × List ℕ) (line : ℕ × Side) : Type 0 where
  pub measured : ever_measured x cs i line.0 ≡ true
  pub past :
      Past line.1 (value_of (choice_at x i).formats line.0 (word_now x cs i line.0))
      (value_of (choice_at x i).formats line.0 (limit_now x cs i row))

-- after every run, on every page, for each of the six causes and five warnings
unfoldable pub PresentMeans : Type 0
PresentMeans =
    (x : Choice) (cs : List Call) (i m : ℕ) → AllOnBus cs → i < number_of x → m < 11
    → (present (page_of (reached x cs) i) m ≡ true) ↔ Crossed x cs i (limit_row m) (line_of m)
