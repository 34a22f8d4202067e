-- What a read of each code gives, by code, and what an alert response replies: the command table (data sheet 3.1) read as the bytes on the
-- bus, without the kinds of commands that Data.antt goes by. A slip made alike in the code and in Data.antt or Reply.antt is refused.
-- Assumes nothing.
use Rattle.std.specs.Prelude.{ℕ, ◌<◌, ◌/◌, ◌%◌, ◌≡◌, false, cond, List, [], ◌∷◌, map, get_or, replicate}
use Rattle.command.specs.Table.{lookup}
use Rattle.command.specs.Meaning.{command_of}
use Rattle.page.specs.declared.Page.{Page}
use Rattle.page.specs.Status.{status_byte, status_high}
use Rattle.unpaged.specs.declared.Unpaged.{Unpaged}
use Rattle.unpaged.specs.Applies.{is_in}
use Rattle.reads.specs.Data.{read_data}
use Rattle.reads.specs.Reply.{reply_of, alert_stream}

-- a word travels low byte first (data sheet 2.4)
abbrev pub low_first : ℕ → List ℕ
low_first w = w % 256 ∷ w / 256 ∷ []

-- of a page: a limit and a response by the number of its cause or warning (data sheet 6.1, 6.13), a status register by its place from 7Ah
-- on, and the latest word of a quantity, 0000h before any (data sheet 5.1, 5.7)
abbrev pub limit_at : Page → ℕ → List ℕ
limit_at p n = low_first (get_or p.limits n 0)

abbrev pub response_at : Page → ℕ → List ℕ
response_at p n = get_or p.responses n 0 ∷ []

abbrev pub register_at : Page → ℕ → List ℕ
register_at p j = get_or p.status j 0 ∷ []

abbrev pub latest_of : Page → ℕ → List ℕ
latest_of p q = low_first (cond (get_or p.measured q false) (get_or p.words q 0) 0)

-- the account's seven bytes: the count byte, accumulator, rollover count, sample count (data sheet 9.5)
abbrev pub account_bytes : Unpaged → List ℕ
account_bytes u =
    0x06
    ∷ u.energy.accumulator % 256
    ∷ u.energy.accumulator / 256 % 256
    ∷ u.energy.rollover % 256
    ∷ u.energy.count % 256
    ∷ u.energy.count / 256 % 256
    ∷ u.energy.count / 65536 % 256
    ∷ []

-- each code that is read, with its data bytes, from the unpaged part u and the page p
abbrev pub given : Unpaged → Page → List (ℕ × List ℕ)
given u p =
    (0x00, u.page ∷ [])  -- PAGE
    ∷ (0x01, p.operation ∷ [])  -- OPERATION
    ∷ (0x10, u.protect ∷ [])  -- WRITE_PROTECT
    ∷ (0x19, 0xB0 ∷ [])  -- CAPABILITY
    ∷ (0x20, 0x13 ∷ [])  -- VOUT_MODE
    ∷ (0x21, low_first p.command)  -- VOUT_COMMAND
    ∷ (0x40, limit_at p 0)  -- VOUT_OV_FAULT_LIMIT
    ∷ (0x41, response_at p 0)  -- VOUT_OV_FAULT_RESPONSE
    ∷ (0x42, limit_at p 6)  -- VOUT_OV_WARN_LIMIT
    ∷ (0x46, limit_at p 1)  -- IOUT_OC_FAULT_LIMIT
    ∷ (0x47, response_at p 1)  -- IOUT_OC_FAULT_RESPONSE
    ∷ (0x4A, limit_at p 7)  -- IOUT_OC_WARN_LIMIT
    ∷ (0x4F, limit_at p 2)  -- OT_FAULT_LIMIT
    ∷ (0x50, response_at p 2)  -- OT_FAULT_RESPONSE
    ∷ (0x51, limit_at p 8)  -- OT_WARN_LIMIT
    ∷ (0x53, limit_at p 3)  -- UT_FAULT_LIMIT
    ∷ (0x54, response_at p 3)  -- UT_FAULT_RESPONSE
    ∷ (0x55, limit_at p 4)  -- VIN_OV_FAULT_LIMIT
    ∷ (0x56, response_at p 4)  -- VIN_OV_FAULT_RESPONSE
    ∷ (0x57, limit_at p 9)  -- VIN_OV_WARN_LIMIT
    ∷ (0x58, limit_at p 10)  -- VIN_UV_WARN_LIMIT
    ∷ (0x59, limit_at p 5)  -- VIN_UV_FAULT_LIMIT
    ∷ (0x5A, response_at p 5)  -- VIN_UV_FAULT_RESPONSE
    ∷ (0x78, status_byte p u.cml ∷ [])  -- STATUS_BYTE
    ∷ (0x79, status_byte p u.cml ∷ status_high p ∷ [])  -- STATUS_WORD
    ∷ (0x7A, register_at p 0)  -- STATUS_VOUT
    ∷ (0x7B, register_at p 1)  -- STATUS_IOUT
    ∷ (0x7C, register_at p 2)  -- STATUS_INPUT
    ∷ (0x7D, register_at p 3)  -- STATUS_TEMPERATURE
    ∷ (0x7E, u.cml ∷ [])  -- STATUS_CML
    ∷ (0x86, account_bytes u)  -- READ_EIN
    ∷ (0x88, latest_of p 2)  -- READ_VIN
    ∷ (0x8B, latest_of p 0)  -- READ_VOUT
    ∷ (0x8C, latest_of p 1)  -- READ_IOUT
    ∷ (0x8D, latest_of p 3)  -- READ_TEMPERATURE_1
    ∷ (0x98, 0x22 ∷ [])  -- PMBUS_REVISION
    ∷ []

-- line by line a code's data are those listed, and the codes listed are all that the table lets be read
unfoldable pub ReadsGive : Type 0
ReadsGive =
    (u : Unpaged) (p : Page)
    → (map (λ l. read_data u p (command_of l.0)) (given u p) ≡ map (λ l. l.1) (given u p))
    × ((c : ℕ) → c < 256 → (lookup c).read ≡ is_in c (map (λ l. l.0) (given u p)))

-- the reply of n bytes to an alert response with this answer: the device's write address where it is answered, which takes one byte; with
-- every other answer FFh throughout (data sheet 8.4, 11.4)
pub record AlertReply (answer n : ℕ) (reply : List ℕ) : Type 0 where
  pub answered : answer ≡ 0 → n ≡ 1 → reply ≡ 0xC0 ∷ []
  pub nothing : (answer ≡ 0 → ⊥) → reply ≡ replicate n 0xFF

unfoldable pub AlertReplies : Type 0
AlertReplies = (answer n : ℕ) → AlertReply answer n (reply_of (alert_stream answer) n)
