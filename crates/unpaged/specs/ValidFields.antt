-- Which unpaged parts are valid, field by field in numbers (data sheet 12.2): a slip made alike in the code and in Unpaged.antt is refused.
-- Assumes nothing.
use Rattle.std.specs.Prelude.{ℕ, ◌≡◌, Bool, ◌||◌, List, [], ◌∷◌, eqb, ltb, leb}
use Rattle.page.specs.ValidFields.{all_hold}
use Rattle.unpaged.specs.declared.Unpaged.{Unpaged}
use Rattle.unpaged.specs.Unpaged.{unpaged_valid}

-- what has to hold in a device with n pages, a line for each field; STATUS_CML and the alert may hold anything
abbrev pub unpaged_tests : ℕ → Unpaged → List Bool
unpaged_tests n u =
    (ltb u.page n || eqb u.page 0xFF)  -- PAGE: a page's number, or every page
    ∷ (eqb u.protect 0x00 || eqb u.protect 0x20 || eqb u.protect 0x40 || eqb u.protect 0x80)  -- WRITE_PROTECT
    ∷ leb u.energy.accumulator 0x7FFF  -- the accumulator
    ∷ leb u.energy.rollover 0xFF  -- the rollover count, 8 bits
    ∷ leb u.energy.count 0xFFFFFF  -- the sample count, 24 bits
    ∷ []

unfoldable pub UnpagedValidByField : Type 0
UnpagedValidByField = (n : ℕ) (u : Unpaged) → unpaged_valid n u ≡ all_hold (unpaged_tests n u)
