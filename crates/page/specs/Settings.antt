-- What a host writes to a page and what is measured on it, each one change; and which data are valid.
-- Assumes nothing.
use Rattle.std.specs.Prelude.{ℕ, ◌%◌, Bool, true, cond, not, ◌&&◌, ◌||◌, List, [], ◌∷◌, map, get_or, set, eqb}
use Rattle.laws.specs.Bits.{without}
use Rattle.laws.specs.Lists.{all_of}
use Rattle.retry.specs.Machines.{all_valid}
use Rattle.value.specs.declared.format.Format.{Format}
use Rattle.value.specs.Format.{format_valid}
use Rattle.cause.specs.Causes.{IOUT, VIN, TEMPERATURE, causes, response_of, valid_at}
use Rattle.page.specs.declared.Page.{Page}
use Rattle.page.specs.Page.{format_in, resting, with_operation, with_command, with_limits, with_responses, with_machines, with_words, with_status, with_tripped}

-- off, off, on (data sheet 3.5)
unfoldable pub valid_operation : ℕ → Bool
valid_operation x = eqb x 0x00 || eqb x 0x40 || eqb x 0x80

-- x is valid data of the response to cause k
unfoldable pub valid_response : ℕ → ℕ → Bool
valid_response k x = valid_at (response_of k).actions x

-- under each DIRECT mark the coefficients are valid
unfoldable pub formats_valid : List Format → Bool
formats_valid fs = all_of (λ q. format_valid (format_in fs q)) (IOUT ∷ VIN ∷ TEMPERATURE ∷ [])

-- OPERATION and every response hold valid data, every machine a value that runs give it, and every DIRECT format valid coefficients; the other
-- fields may hold anything (data sheet 12.2)
unfoldable pub page_valid : Page → Bool
page_valid p =
    valid_operation p.operation
    && all_of (λ c. valid_at c.response.actions (get_or p.responses c.limit.number 0)) causes
    && all_valid p.machines
    && formats_valid p.formats

-- the values of OPERATION that switch off at once
abbrev pub switches_off : ℕ → Bool
switches_off x = eqb x 0x00 || eqb x 0x40

-- OPERATION: 00h and 40h also put every machine to rest and untrip the page (data sheet 7.4, 7.11)
unfoldable pub set_operation : Page → ℕ → Page
set_operation p x =
    with_tripped (with_machines (with_operation p x) (cond (switches_off x) resting p.machines)) (p.tripped && not (switches_off x))

unfoldable pub set_vout_command : Page → ℕ → Page
set_vout_command p w = with_command p w

unfoldable pub set_limit : Page → ℕ → ℕ → Page
set_limit p k w = with_limits p (set p.limits (k % 11) w)

-- a response; its machine, and no other, is put to rest, also by the same byte (data sheet 7.11)
unfoldable pub set_response : Page → ℕ → ℕ → Page
set_response p k x = with_machines (with_responses p (set p.responses (k % 6) x)) (set p.machines (k % 6) 0)

-- the latest word of quantity q
unfoldable pub set_measurement : Page → ℕ → ℕ → Page
set_measurement p q w = with_words p (set p.words (q % 4) w) (set p.measured (q % 4) true)

-- each of the four registers loses the bits of its mask; the page stays tripped, and no machine is put to rest (data sheet 7.2, 7.11)
unfoldable pub clear_bits : Page → List ℕ → Page
clear_bits p ms = with_status p (map (λ j. without (get_or p.status j 0) (get_or ms j 0)) (0 ∷ 1 ∷ 2 ∷ 3 ∷ []))
