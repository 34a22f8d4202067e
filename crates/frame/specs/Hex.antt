-- Lower-case hexadecimal, two digits a byte. A character is its ASCII code.
-- Assumes nothing.
use Rattle.std.specs.Prelude.{ℕ, ◌+◌, ◌*◌, ◌-◌, ◌/◌, ◌%◌, Bool, cond, ◌&&◌, ◌||◌, List, [], ◌∷◌, ltb, leb}

-- `0` to `9`, 48 to 57, or `a` to `f`, 97 to 102
abbrev pub is_digit : ℕ → Bool
is_digit c = (leb 48 c && leb c 57) || (leb 97 c && leb c 102)

-- the value of a digit
abbrev pub digit_of : ℕ → ℕ
digit_of c = cond (leb c 57) (c - 48) (c - 97 + 10)

-- the byte of two digits, the high one first
abbrev pub byte_of : ℕ → ℕ → ℕ
byte_of high low = digit_of high * 16 + digit_of low

-- the bytes of a row of digits
unfoldable pub pairs : List ℕ → List ℕ
pairs [] = []
pairs (high ∷ []) = []
pairs (high ∷ low ∷ s) = byte_of high low ∷ pairs s

-- the digit of a value below 16
abbrev pub glyph : ℕ → ℕ
glyph x = cond (ltb x 10) (48 + x) (97 + (x - 10))

-- the digits of a row of bytes
unfoldable pub hex_of : List ℕ → List ℕ
hex_of [] = []
hex_of (b ∷ s) = glyph (b / 16) ∷ glyph (b % 16) ∷ hex_of s
