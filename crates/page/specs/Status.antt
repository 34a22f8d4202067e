-- What a page shows: whether it supplies, STATUS_BYTE and STATUS_WORD, its latest words, and which bits are new.
-- Assumes nothing.
use Rattle.std.specs.Prelude.{ℕ, ◌/◌, ◌%◌, Bool, false, cond, not, ◌&&◌, ◌||◌, get_or, eqb}
use Rattle.std.specs.Int.Bits.{bit_or}
use Rattle.laws.specs.Bits.{bit}
use Rattle.retry.specs.Machines.{any_holds}
use Rattle.page.specs.declared.Page.{Page}
use Rattle.page.specs.Causes.{present_causes, off_while_lasts, weigh}

-- it is on, not tripped, no present cause keeps it off and no machine holds it off (data sheet 7.6)
unfoldable pub supplies : Page → Bool
supplies p =
    eqb p.operation 0x80 && not p.tripped && not (off_while_lasts (present_causes p) p.responses) && not (any_holds p.machines)

-- the registers by name
abbrev pub vout : Page → ℕ
vout p = get_or p.status 0 0

abbrev pub iout : Page → ℕ
iout p = get_or p.status 1 0

abbrev pub input : Page → ℕ
input p = get_or p.status 2 0

abbrev pub temperature : Page → ℕ
temperature p = get_or p.status 3 0

abbrev pub any : ℕ → Bool
any x = not (eqb x 0)

-- the bits of VOUT, IOUT and INPUT that no other bit of STATUS_BYTE shows: all but VOUT 7, IOUT 7 and 6, INPUT 4
abbrev pub other_bit : Page → Bool
other_bit p = any (vout p % 128) || any (iout p % 64) || any (input p / 32) || any (input p % 16)

-- data sheet 6.10, a line of it for each weight
unfoldable pub status_byte : Page → ℕ → ℕ
status_byte p cml =
    bit_or
    (bit_or
    (bit_or
    (bit_or (bit_or (bit_or (weigh (not (supplies p)) 64) (weigh (bit (vout p) 7) 32)) (weigh (bit (iout p) 7 || bit (iout p) 6) 16))
    (weigh (bit (input p) 4) 8))
    (weigh (any (temperature p)) 4))
    (weigh (any cml) 2))
    (weigh (other_bit p) 1)

-- data sheet 6.11, the high byte
unfoldable pub status_high : Page → ℕ
status_high p =
    bit_or (bit_or (bit_or (weigh (any (vout p)) 128) (weigh (any (iout p)) 64)) (weigh (any (input p)) 32)) (weigh (not (supplies p)) 8)

-- the latest word of a quantity, 0000h before any (data sheet 5.7)
unfoldable pub reading : Page → ℕ → ℕ
reading p q = cond (get_or p.measured (q % 4) false) (get_or p.words (q % 4) 0) 0

-- some bit of the four registers is 1
unfoldable pub any_status : Page → Bool
any_status p = any (bit_or (bit_or (bit_or (vout p) (iout p)) (input p)) (temperature p))

-- the register x has a bit that y lacks
abbrev pub gains : ℕ → ℕ → Bool
gains y x = not (eqb (bit_or y x) y)

-- some bit of the four registers is 0 in p and 1 in q
unfoldable pub risen : Page → Page → Bool
risen p q = gains (vout p) (vout q) || gains (iout p) (iout q) || gains (input p) (input q) || gains (temperature p) (temperature q)
