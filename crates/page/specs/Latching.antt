-- Single bits of a page's status registers, and the causes and warnings that they have.
-- Assumes nothing.
use Rattle.std.specs.Prelude.{ℕ, Bool, ◌&&◌, get_or, eqb}
use Rattle.laws.specs.Bits.{bit}
use Rattle.laws.specs.Lists.{any_of}
use Rattle.cause.specs.Causes.{limits, limit_of, response_of, register, stays_off_at}
use Rattle.page.specs.declared.Page.{Page}
use Rattle.page.specs.Causes.{present}

-- bit k of register j: 0 STATUS_VOUT, 1 STATUS_IOUT, 2 STATUS_INPUT, 3 STATUS_TEMPERATURE
abbrev pub status_bit : Page → ℕ → ℕ → Bool
status_bit p j k = bit (get_or p.status j 0) k

-- the register of limit n, a cause's or a warning's, and its bit there
abbrev pub register_of : ℕ → ℕ
register_of n = register (limit_of n)

abbrev pub bit_of : ℕ → ℕ
bit_of n = (limit_of n).bit_number

-- some present cause or warning of the page has bit k of register j
unfoldable pub caused : Page → ℕ → ℕ → Bool
caused p j k = any_of (λ l. present p l.number && (eqb (register l) j && eqb l.bit_number k)) limits

-- the response to cause n is to shut down and stay off
abbrev pub stays_off_by : Page → ℕ → Bool
stays_off_by p n = stays_off_at (response_of n).actions (get_or p.responses n 0)
