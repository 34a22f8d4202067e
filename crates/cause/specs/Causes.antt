-- The table of causes and warnings: what is held against which limit, which bit shows it, and for a cause what its response byte means. What
-- the other crates say of them, their codes included, is worked out from this table or proved to agree with it.
-- Assumes nothing.
use Rattle.std.specs.Prelude.{ℕ, ◌-◌, Bool, true, false, ◌&&◌, ◌||◌, List, [], ◌∷◌, ◌++◌, map, eqb, get_or}
use Rattle.retry.specs.Response.{holds_at_once, off_while_present, retries}

-- the quantities (data sheet 5.1)
abbrev pub VOUT : ℕ
VOUT = 0

abbrev pub IOUT : ℕ
IOUT = 1

abbrev pub VIN : ℕ
VIN = 2

abbrev pub TEMPERATURE : ℕ
TEMPERATURE = 3

-- the code that reads the latest word of each
abbrev pub read_codes : List ℕ
read_codes = 0x8B ∷ 0x8C ∷ 0x88 ∷ 0x8D ∷ []

-- a word past its limit lies above or below it
pub data Side : Type 0 where
  above : Side
  below : Side

-- What a limit is for: its number among the limits, its code, the quantity that is held against it, the side that counts, the register and
-- the bit that show it, and the number of the cause whose limit it starts from at power-on: its own, or that of the fault it warns of.
pub record Limit : Type 0 where
  pub number : ℕ
  pub limit_code : ℕ
  pub quantity : ℕ
  pub side : Side
  pub status_code : ℕ
  pub bit_number : ℕ
  pub starts_from : ℕ

-- the meanings of a response byte (data sheet 3.6): those of voltages and temperatures, by its action, retries and delay, and those of currents
pub data Actions : Type 0 where
  voltage : Actions
  current : Actions

-- the byte says: shut down and stay off
abbrev pub stays_off_at : Actions → ℕ → Bool
stays_off_at voltage x = holds_at_once x && eqb (retries x) 0
stays_off_at current x = eqb x 0xC0

-- a present cause trips the page without a retry machine
abbrev pub trips_at : Actions → ℕ → Bool
trips_at voltage x = false
trips_at current x = eqb x 0xC0

-- the byte says: off for as long as the cause is present
abbrev pub lasts_at : Actions → ℕ → Bool
lasts_at voltage x = off_while_present x
lasts_at current x = false

-- every byte says something of a voltage or a temperature; of a current 00h, to go on, and C0h
abbrev pub valid_at : Actions → ℕ → Bool
valid_at voltage x = true
valid_at current x = eqb x 0x00 || eqb x 0xC0

-- how a supply responds to a cause: the response's code, its meanings, and its byte at power-on
pub record Response : Type 0 where
  pub response_code : ℕ
  pub actions : Actions
  pub power_on_response : ℕ

-- a limit whose crossing is a fault, its word at power-on, and its response
pub record Cause : Type 0 where
  pub limit : Limit
  pub power_on_limit : ℕ
  pub response : Response

abbrev pub limit : ℕ → ℕ → ℕ → Side → ℕ → ℕ → ℕ → Limit
limit n code q s status b from = record {
  number = n;
  limit_code = code;
  quantity = q;
  side = s;
  status_code = status;
  bit_number = b;
  starts_from = from;
}

abbrev pub response : ℕ → Actions → ℕ → Response
response code a x = record { response_code = code; actions = a; power_on_response = x }

abbrev pub cause : Limit → ℕ → Response → Cause
cause l w r = record { limit = l; power_on_limit = w; response = r }

-- Data sheet 6.1, with the power-on values of 3.1. A limit: number, code, quantity, side, status register, bit, the cause it starts from. Its
-- word at power-on. Its response: code, meanings, byte at power-on.
unfoldable pub causes : List Cause
causes =
    cause (limit 0 0x40 VOUT above 0x7A 7 0) 0x2A3D (response 0x41 voltage 0x80)  -- VOUT_OV
    ∷ cause (limit 1 0x46 IOUT above 0x7B 7 1) 0xD280 (response 0x47 current 0xC0)  -- IOUT_OC
    ∷ cause (limit 2 0x4F TEMPERATURE above 0x7D 7 2) 0xEB70 (response 0x50 voltage 0x80)  -- OT
    ∷ cause (limit 3 0x53 TEMPERATURE below 0x7D 4 3) 0xEEC0 (response 0x54 voltage 0x80)  -- UT
    ∷ cause (limit 4 0x55 VIN above 0x7C 7 4) 0xD3FF (response 0x56 voltage 0x80)  -- VIN_OV
    ∷ cause (limit 5 0x59 VIN below 0x7C 4 5) 0xC3F5 (response 0x5A voltage 0x80)  -- VIN_UV
    ∷ []

-- Data sheet 6.13: limits without a response, whose crossing is a warning. At power-on each has the word of the fault limit it warns of.
unfoldable pub warnings : List Limit
warnings =
    limit 6 0x42 VOUT above 0x7A 6 0  -- VOUT_OV
    ∷ limit 7 0x4A IOUT above 0x7B 5 1  -- IOUT_OC
    ∷ limit 8 0x51 TEMPERATURE above 0x7D 6 2  -- OT
    ∷ limit 9 0x57 VIN above 0x7C 6 4  -- VIN_OV
    ∷ limit 10 0x58 VIN below 0x7C 5 5  -- VIN_UV
    ∷ []

abbrev pub faults : List Limit
faults = map (λ c. c.limit) causes

-- all eleven limits, in the order of the numbers
abbrev pub limits : List Limit
limits = faults ++ warnings

-- the words at power-on of the six fault limits,
abbrev pub power_on_limits : List ℕ
power_on_limits = map (λ c. c.power_on_limit) causes

-- and of all eleven, where those of the fault limits are ws
abbrev pub starts_with : List ℕ → List ℕ
starts_with ws = map (λ l. get_or ws l.starts_from 0) limits

-- the responses of the six causes
abbrev pub responses : List Response
responses = map (λ c. c.response) causes

-- a line by its number
abbrev pub limit_of : ℕ → Limit
limit_of n = get_or limits n (limit n 0 0 above 0 0 0)

abbrev pub response_of : ℕ → Response
response_of n = get_or responses n (response 0 voltage 0)

-- a status register by its place on the page: 0 for 7Ah to 3 for 7Dh
abbrev pub register : Limit → ℕ
register l = l.status_code - 0x7A
