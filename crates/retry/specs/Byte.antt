-- The byte in which a page keeps a machine (data sheet 7.12): tries in bits 5 to 3 and ticks in bits 2 to 0, where a response byte has its retries
-- and its delay, and bit 6 for a machine that has tripped. In octal:
--
--      000 rest    00t waiting    0nt held    0n0 trying    100 tripped
--
-- Assumes nothing.
use Rattle.std.specs.Prelude.{ℕ, ◌+◌, ◌*◌, ◌/◌, ◌%◌, Bool, cond, not, ◌&&◌, eqb, ltb, leb}
use Rattle.retry.specs.Machine.{Machine, rest, waiting, held, trying, tripped, at_call, at_tick, holds, trips}

unfoldable pub byte_of : Machine → ℕ
byte_of rest = 0
byte_of (waiting t) = t
byte_of (held n t) = n * 8 + t
byte_of (trying n) = n * 8
byte_of tripped = 64

-- the machine that a byte means; 65 and above, which no run gives, are read as tripped
unfoldable pub machine_of : ℕ → Machine
machine_of b =
    cond (eqb b 0) rest
    (cond (ltb b 8) (waiting b)
    (cond (leb 64 b) tripped
    (cond (eqb (b % 8) 0) (trying (b / 8))
    (held (b / 8) (b % 8)))))

-- the steps, and what a page asks of a machine, by the byte
unfoldable pub byte_at_call : ℕ → Bool → ℕ → ℕ
byte_at_call response present b = byte_of (at_call response present (machine_of b))

unfoldable pub byte_at_tick : ℕ → Bool → ℕ → ℕ
byte_at_tick response present b = byte_of (at_tick response present (machine_of b))

unfoldable pub byte_holds : ℕ → Bool
byte_holds b = holds (machine_of b)

unfoldable pub byte_trips : ℕ → Bool
byte_trips b = trips (machine_of b)

-- a step trips the page: before it the machine had not
unfoldable pub trips_now : ℕ → ℕ → Bool
trips_now before after = byte_trips after && not (byte_trips before)

-- the values that runs give the byte: all sixty-five of them, and no other
abbrev pub byte_valid : ℕ → Bool
byte_valid b = leb b 64
