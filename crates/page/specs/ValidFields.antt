-- Which pages are valid, field by field in numbers (data sheet 12.2): not by the table of causes, and not by the definitions that judge what
-- a host writes. A slip made alike in the code and in Settings.antt is refused.
-- Assumes nothing.
use Rattle.std.specs.Prelude.{ℕ, ◌≡◌, Bool, false, not, ◌&&◌, ◌||◌, List, [], ◌∷◌, eqb, ltb, leb, get_or}
use Rattle.laws.specs.Lists.{all_of}
use Rattle.value.specs.declared.format.Format.{Format}
use Rattle.page.specs.declared.Page.{Page}
use Rattle.page.specs.Settings.{page_valid}

-- the response to a cause and its machine, by the cause's number
abbrev pub response_to : Page → ℕ → ℕ
response_to p n = get_or p.responses n 0

abbrev pub machine_of : Page → ℕ → ℕ
machine_of p n = get_or p.machines n 0

-- the format of IOUT, VIN or temperature, by its place; under a DIRECT mark m is not 0, and R is 0 to 6 or, in two's complement, -6 to -1
abbrev pub format_at : Page → ℕ → Format
format_at p n = get_or p.formats n (record { direct = false; m = 0; b = 0; r = 0 })

abbrev pub coefficients_hold : Format → Bool
coefficients_hold f = not f.direct || (not (eqb f.m 0) && (ltb f.r 7 || ltb 0xF9 f.r))

-- what has to hold, a line for each field; the responses to the other five causes may be any byte
abbrev pub page_tests : Page → List Bool
page_tests p =
    (eqb p.operation 0x00 || eqb p.operation 0x40 || eqb p.operation 0x80)  -- OPERATION: off, off, on
    ∷ (eqb (response_to p 1) 0x00 || eqb (response_to p 1) 0xC0)  -- the response to IOUT_OC
    ∷ leb (machine_of p 0) 64  -- the machine of VOUT_OV
    ∷ eqb (machine_of p 1) 0  -- of IOUT_OC, which never retries
    ∷ leb (machine_of p 2) 64  -- of OT
    ∷ leb (machine_of p 3) 64  -- of UT
    ∷ leb (machine_of p 4) 64  -- of VIN_OV
    ∷ leb (machine_of p 5) 64  -- of VIN_UV
    ∷ coefficients_hold (format_at p 0)  -- the format of IOUT
    ∷ coefficients_hold (format_at p 1)  -- of VIN
    ∷ coefficients_hold (format_at p 2)  -- of temperature
    ∷ []

-- all of a list of tests hold
abbrev pub all_hold : List Bool → Bool
all_hold l = all_of (λ b. b) l

-- two pages with the same of these fields
pub record SameTested (p q : Page) : Type 0 where
  pub operation : p.operation ≡ q.operation
  pub current : response_to p 1 ≡ response_to q 1
  pub machines : p.machines ≡ q.machines
  pub formats : p.formats ≡ q.formats

-- a page is valid exactly where all of them hold, and no other field is looked at
pub record ByField : Type 0 where
  pub exactly : (p : Page) → page_valid p ≡ all_hold (page_tests p)
  pub aside : (p q : Page) → SameTested p q → page_valid p ≡ page_valid q

unfoldable pub PageValidByField : Type 0
PageValidByField = ByField
