-- When a cause or a warning is present, limit by limit, in the numbers of the data sheet (6.1, 6.2, 6.13). Neither the table of causes nor
-- the tests of Causes.antt stand here, so that a slip made there and in the code alike is refused.
-- Assumes nothing.
use Rattle.std.specs.Prelude.{ℕ, ◌-◌, ◌<◌, ◌≡◌, ◌↔◌, true, false, cond, List, [], ◌∷◌, eqb, pos, ◌*ℤ◌, get_or, ◌<ℤ◌}
use Rattle.value.specs.declared.ratio.Ratio.{Ratio}
use Rattle.value.specs.declared.format.Format.{Format}
use Rattle.value.specs.Format.{linear_format}
use Rattle.value.specs.Format as format
use Rattle.cause.specs.Causes.{Side, above, below}
use Rattle.page.specs.declared.Page.{Page}
use Rattle.page.specs.Causes.{present}

-- The value of a word of quantity q, as a fraction: an output voltage word, of quantity 0, is the number itself (data sheet 5.2). The words of
-- quantities 1 to 3 are in the format that the page has for them, in this order: Linear11, or DIRECT with its coefficients, by exact value
-- (data sheet 5.4, 20.1; crate `value`, Claims.antt, says what these values mean).
unfoldable pub value_of : List Format → ℕ → ℕ → Ratio
value_of fs q word = cond (eqb q 0) (record { num = pos word; den = 1 }) (format.value_of (get_or fs (q - 1) linear_format) word)

-- fraction x lies past fraction y on a side, by their cross products; equal is past on neither
unfoldable pub Past : Side → Ratio → Ratio → Type 0
Past above x y = (y.num *ℤ pos x.den) <ℤ (x.num *ℤ pos y.den)
Past below x y = (x.num *ℤ pos y.den) <ℤ (y.num *ℤ pos x.den)

-- the quantity that is held against each limit, by the limit's number, and the side that counts
abbrev pub lines : List (ℕ × Side)
lines =
    (0, above)  -- VOUT_OV, fault
    ∷ (1, above)  -- IOUT_OC, fault
    ∷ (3, above)  -- OT, fault
    ∷ (3, below)  -- UT, fault
    ∷ (2, above)  -- VIN_OV, fault
    ∷ (2, below)  -- VIN_UV, fault
    ∷ (0, above)  -- VOUT_OV, warning
    ∷ (1, above)  -- IOUT_OC, warning
    ∷ (3, above)  -- OT, warning
    ∷ (2, above)  -- VIN_OV, warning
    ∷ (2, below)  -- VIN_UV, warning
    ∷ []

abbrev pub line_of : ℕ → ℕ × Side
line_of n = get_or lines n (0, above)

-- the quantity of the line was measured on p, and its latest word lies past limit n
pub record Beyond (p : Page) (n : ℕ) (line : ℕ × Side) : Type 0 where
  pub measured : get_or p.measured line.0 false ≡ true
  pub past :
      Past line.1 (value_of p.formats line.0 (get_or p.words line.0 0)) (value_of p.formats line.0 (get_or p.limits n 0))

unfoldable pub PresentExactly : Type 0
PresentExactly = (p : Page) (n : ℕ) → n < 11 → (present p n ≡ true) ↔ Beyond p n (line_of n)
