-- What was written is read back, and what was measured: said by the calls of a run and their answers, without the definition of what a call
-- does to the state.
-- Assumes nothing.
use Rattle.std.specs.Prelude.{ℕ, ◌<◌, ◌-◌, ◌/◌, ◌%◌, ◌≡◌, Bool, true, false, cond, not, ◌&&◌, ◌||◌, List, [], ◌∷◌, map, eqb, leb, length, get_or, take}
use Rattle.laws.specs.Lists.{any_of, Bytes}
use Rattle.cause.specs.Causes.{read_codes}
use Rattle.command.specs.Table.{lookup}
use Rattle.page.specs.declared.PageChoice.{PageChoice}
use Rattle.value.specs.Format.{linear_format}
use Rattle.unpaged.specs.Unpaged.{acts_on}
use Rattle.reads.specs.Data.{word_bytes}
use Rattle.writes.specs.Accepted.{code_of}
use Rattle.device.specs.declared.Device.{Device}
use Rattle.device.specs.Device.{Choice, number_of, choice_at, granted, power_on}
use Rattle.device.specs.Step.{Call, write, read, measure, sample, alert_response, tick, step}
use Rattle.history.specs.Run.{next, answer, reached}

-- what the latest call of a run from d that passes a test gave, or else `old`
unfoldable pub latest : {A : Type 0} → (Device → Call → Bool) → (Call → A) → Device → List Call → A → A
latest test given d [] old = old
latest test given d (c ∷ cs) old = latest test given (next d c) cs (cond (test d c) (given c) old)

-- the bytes of a write are bytes
abbrev pub OnBus : Call → Type 0
OnBus (write s) = Bytes s
OnBus (read header n) = Unit
OnBus (measure page quantity word) = Unit
OnBus (sample n) = Unit
OnBus (alert_response n) = Unit
OnBus tick = Unit

unfoldable pub AllOnBus : List Call → Type 0
AllOnBus [] = Unit
AllOnBus (c ∷ cs) = OnBus c × AllOnBus cs

-- a read of a code, of as many bytes as the table says, is answered and replies with these
pub record Reads (d : Device) (code : ℕ) (bytes : List ℕ) : Type 0 where
  pub accepted : answer d (read (0xC0 ∷ code ∷ 0xC1 ∷ []) (lookup code).length) ≡ 0
  pub reply : (step d (read (0xC0 ∷ code ∷ 0xC1 ∷ []) (lookup code).length)).reply ≡ bytes

-- ---- written values (data sheet 3.4)

-- The codes that keep what is written to them, each with its data after power-on where nothing else is chosen (data sheet 3.1).
abbrev pub stored : List (ℕ × List ℕ)
stored =
    (0x00, 0x00 ∷ [])  -- PAGE
    ∷ (0x01, 0x00 ∷ [])  -- OPERATION
    ∷ (0x10, 0x00 ∷ [])  -- WRITE_PROTECT
    ∷ (0x21, 0x66 ∷ 0x26 ∷ [])  -- VOUT_COMMAND
    ∷ (0x40, 0x3D ∷ 0x2A ∷ [])  -- VOUT_OV_FAULT_LIMIT
    ∷ (0x41, 0x80 ∷ [])  -- VOUT_OV_FAULT_RESPONSE
    ∷ (0x42, 0x3D ∷ 0x2A ∷ [])  -- VOUT_OV_WARN_LIMIT
    ∷ (0x46, 0x80 ∷ 0xD2 ∷ [])  -- IOUT_OC_FAULT_LIMIT
    ∷ (0x47, 0xC0 ∷ [])  -- IOUT_OC_FAULT_RESPONSE
    ∷ (0x4A, 0x80 ∷ 0xD2 ∷ [])  -- IOUT_OC_WARN_LIMIT
    ∷ (0x4F, 0x70 ∷ 0xEB ∷ [])  -- OT_FAULT_LIMIT
    ∷ (0x50, 0x80 ∷ [])  -- OT_FAULT_RESPONSE
    ∷ (0x51, 0x70 ∷ 0xEB ∷ [])  -- OT_WARN_LIMIT
    ∷ (0x53, 0xC0 ∷ 0xEE ∷ [])  -- UT_FAULT_LIMIT
    ∷ (0x54, 0x80 ∷ [])  -- UT_FAULT_RESPONSE
    ∷ (0x55, 0xFF ∷ 0xD3 ∷ [])  -- VIN_OV_FAULT_LIMIT
    ∷ (0x56, 0x80 ∷ [])  -- VIN_OV_FAULT_RESPONSE
    ∷ (0x57, 0xFF ∷ 0xD3 ∷ [])  -- VIN_OV_WARN_LIMIT
    ∷ (0x58, 0xF5 ∷ 0xC3 ∷ [])  -- VIN_UV_WARN_LIMIT
    ∷ (0x59, 0xF5 ∷ 0xC3 ∷ [])  -- VIN_UV_FAULT_LIMIT
    ∷ (0x5A, 0x80 ∷ [])  -- VIN_UV_FAULT_RESPONSE
    ∷ []

abbrev pub stored_at : ℕ → ℕ × List ℕ
stored_at m = get_or stored m (0x00, [])

-- The limits that start as chosen where their quantity is in DIRECT form, and a warning as the fault it warns of: code, quantity, cause.
abbrev pub chosen_rows : List (ℕ × ℕ × ℕ)
chosen_rows =
    (0x46, 1, 1)  -- IOUT_OC_FAULT_LIMIT
    ∷ (0x4A, 1, 1)  -- IOUT_OC_WARN_LIMIT
    ∷ (0x4F, 3, 2)  -- OT_FAULT_LIMIT
    ∷ (0x51, 3, 2)  -- OT_WARN_LIMIT
    ∷ (0x53, 3, 3)  -- UT_FAULT_LIMIT
    ∷ (0x55, 2, 4)  -- VIN_OV_FAULT_LIMIT
    ∷ (0x57, 2, 4)  -- VIN_OV_WARN_LIMIT
    ∷ (0x58, 2, 5)  -- VIN_UV_WARN_LIMIT
    ∷ (0x59, 2, 5)  -- VIN_UV_FAULT_LIMIT
    ∷ []

abbrev pub chosen_data : PageChoice → ℕ → List (ℕ × ℕ × ℕ) → List ℕ → List ℕ
chosen_data c code [] old = old
chosen_data c code (r ∷ rs) old =
    cond (eqb r.0 code && (get_or c.formats (r.1 - 1) linear_format).direct) (word_bytes (get_or c.limits r.2 0)) (chosen_data c code rs old)

-- what a row holds after power-on on a page, by what was chosen for it
unfoldable pub starts_as : PageChoice → ℕ × List ℕ → List ℕ
starts_as c r = chosen_data c r.0 chosen_rows r.1

-- they are all codes that are both written and read, but the status registers 7Ah to 7Eh
unfoldable pub StoredCodes : Type 0
StoredCodes =
    (c : ℕ) → c < 256
    → ((lookup c).written && (lookup c).read && not (leb 0x7A c && leb c 0x7E)) ≡ any_of (eqb c) (map (λ r. r.0) stored)

-- PAGE and WRITE_PROTECT belong to the device; each page has its own copy of the others
abbrev pub is_unpaged : ℕ → Bool
is_unpaged code = eqb code 0x00 || eqb code 0x10

-- a call stores a code of page i: it is an accepted write of that code, and acts on that page
unfoldable pub stores : ℕ → ℕ → Device → Call → Bool
stores i code d (write s) = eqb (answer d (write s)) 0 && eqb (code_of s) code && (is_unpaged code || acts_on d.unpaged i)
stores i code d (read header n) = false
stores i code d (measure page quantity word) = false
stores i code d (sample n) = false
stores i code d (alert_response n) = false
stores i code d tick = false

-- the data of a write: the one or two bytes behind its code
unfoldable pub written_data : Call → List ℕ
written_data (write s) = take (lookup (code_of s)).length (get_or s 2 0 ∷ get_or s 3 0 ∷ [])
written_data (read header n) = []
written_data (measure page quantity word) = []
written_data (sample n) = []
written_data (alert_response n) = []
written_data tick = []

-- After every run a stored code reads as the latest accepted write of it left it, on page i for a paged one while that page is selected.
unfoldable pub WrittenBack : Type 0
WrittenBack =
    (x : Choice) (cs : List Call) (i m : ℕ) → granted x ≡ true → AllOnBus cs → i < number_of x → m < length stored
    → (is_unpaged (stored_at m).0 || eqb (reached x cs).unpaged.page i) ≡ true
    → Reads (reached x cs) (stored_at m).0 (latest (stores i (stored_at m).0) written_data (power_on x) cs (starts_as (choice_at x i) (stored_at m)))

-- In particular right after it: an accepted write of a stored code, and then a read of that code, while a page is selected.
unfoldable pub WriteThenRead : Type 0
WriteThenRead =
    (x : Choice) (cs : List Call) (s : List ℕ) (m : ℕ) → granted x ≡ true → Bytes s → m < length stored → code_of s ≡ (stored_at m).0
    → (reached x cs).unpaged.page < number_of x → answer (reached x cs) (write s) ≡ 0
    → Reads (next (reached x cs) (write s)) (code_of s) (written_data (write s))

-- ---- measured values (data sheet 5.6, 5.7)

-- a call measures quantity q of page i
unfoldable pub measures : ℕ → ℕ → Device → Call → Bool
measures i q d (write s) = false
measures i q d (read header n) = false
measures i q d (measure page quantity word) = eqb (answer d (measure page quantity word)) 0 && eqb page i && eqb quantity q
measures i q d (sample n) = false
measures i q d (alert_response n) = false
measures i q d tick = false

-- the word
unfoldable pub measured_word : Call → ℕ
measured_word (write s) = 0
measured_word (read header n) = 0
measured_word (measure page quantity word) = word
measured_word (sample n) = 0
measured_word (alert_response n) = 0
measured_word tick = 0

-- a word is read low byte first
abbrev pub low_first : ℕ → List ℕ
low_first w = w % 256 ∷ w / 256 ∷ []

-- After every run the READ code of a quantity, with page i selected, reads as the latest accepted measurement of it on that page, or 0000h
-- before the first.
unfoldable pub MeasuredBack : Type 0
MeasuredBack =
    (x : Choice) (cs : List Call) (i q : ℕ) → granted x ≡ true → i < number_of x → q < 4 → (reached x cs).unpaged.page ≡ i
    → Reads (reached x cs) (get_or read_codes q 0) (low_first (latest (measures i q) measured_word (power_on x) cs 0))
