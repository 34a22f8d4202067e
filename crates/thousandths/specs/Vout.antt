-- Words of the output voltage (codes 21h, 40h, 42h and 8Bh) are not Linear11 but unsigned units of 1/8192 (data sheet 19.5, 19.6).
-- Assumes nothing.
use Rattle.std.specs.Prelude.{ℕ, ◌+◌, ◌*◌, ◌/◌, cond, ℤ, pos, nat_abs}
use Rattle.signs.specs.Signs.{is_within}
use Rattle.thousandths.specs.declared.Converted.{Converted}
use Rattle.thousandths.specs.Conversion.{converted}

-- the highest whole thousandth: FFFFh is a little over it
abbrev pub vout_highest : ℤ
vout_highest = pos 7999

-- the word for n thousandths
abbrev pub vout_word : ℕ → ℕ
vout_word n = (n * 8192 + 500) / 1000

-- the nearest word, or 25 and word 0000h (data sheet 19.5)
unfoldable pub vout_conversion_of : ℤ → Converted
vout_conversion_of count = cond (is_within (pos 0) vout_highest count) (converted 0 (vout_word (nat_abs count))) (converted 25 0)

-- the thousandths of a word, a half up (data sheet 19.6)
unfoldable pub vout_thousandths_of : ℕ → ℤ
vout_thousandths_of word = pos ((word * 1000 + 4096) / 8192)
